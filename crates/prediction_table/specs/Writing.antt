-- Where a writer into memory stands.
use Rattle.std.specs.Prelude.{◌≡◌, ℕ, List, Vec, Some, false}
use Rattle.std.specs.declared.alloc.Global.{Global}
use Rattle.csv.specs.Writing.{default_writer, fields_written, has_written, text_written, writer_setup}
use Rattle.csv.specs.declared.writer.Writer.{Writer}

-- the writer writes as by default, is between two rows, and has written this text
pub record HasWritten (w : Writer (Vec ℕ Global)) (text : List ℕ) : Type 0 where
  pub no_fields : fields_written w ≡ 0
  pub no_bytes : has_written w ≡ false
  pub plain : writer_setup w ≡ default_writer
  pub written : text_written (λ v. Some v.items) w ≡ Some text
