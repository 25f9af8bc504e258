-- The tree of a text.
use Rattle.std.proofs.Common.{◌≡◌, ℕ, List, Bool, true, false, Some, None, refl, sym}
use Rattle.std.specs.Str.{IsUtf8, is_utf8}
use Rattle.std.proofs.lemmas.Str.{IsUtf8-from_is_utf8, is_utf8-from_IsUtf8}
use Rattle.serde_json.specs.Data.{Data}
use Rattle.serde_json.specs.Read.{read}
use Rattle.report_lines.specs.Lines.{tree_of}

pub tree_read : (bytes : List ℕ) (d : Data) → IsUtf8 bytes × (read bytes ≡ Some d) → Some d ≡ tree_of bytes
tree_read bytes d h = sym (rw (is_utf8-from_IsUtf8 bytes h.0) h.1)

by_utf8 : (bytes : List ℕ) (b : Bool) → is_utf8 bytes ≡ b → (IsUtf8 bytes → read bytes ≡ None) → tree_of bytes ≡ None
by_utf8 bytes true e none = rw e (none (IsUtf8-from_is_utf8 bytes e))
by_utf8 bytes false e none = rw e refl

pub tree_refused : (bytes : List ℕ) → (IsUtf8 bytes → read bytes ≡ None) → None ≡ tree_of bytes
tree_refused bytes none = sym (by_utf8 bytes (is_utf8 bytes) refl none)
