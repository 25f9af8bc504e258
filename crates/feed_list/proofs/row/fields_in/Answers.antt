use Rattle.std.proofs.Common.{◌∙◌, sym, arith}
use Rattle.csv.specs.Records.{fields_of}
use Rattle.feed_list.proofs.Fields.{field_missing, fields_there}
use Rattle.feed_list.proofs.row.fields_in.Goals as goal

pub returns-in_err-get : goal.returns-in_err-get
returns-in_err-get c =
    absurd (field_missing (fields_of c.args.row.now) 0 (sym c.len.ensures ∙ c.if-len-ne3.false) (omega arith) c.in_err-get.ensures.value)

pub returns-in_err-get-2 : goal.returns-in_err-get-2
returns-in_err-get-2 c =
    absurd (field_missing (fields_of c.args.row.now) 1 (sym c.len.ensures ∙ c.if-len-ne3.false) (omega arith) c.in_err-get-2.ensures.value)

pub returns-in_err-get-3 : goal.returns-in_err-get-3
returns-in_err-get-3 c =
    absurd (field_missing (fields_of c.args.row.now) 2 (sym c.len.ensures ∙ c.if-len-ne3.false) (omega arith) c.in_err-get-3.ensures.value)

pub returns : goal.returns
returns c =
    sym (fields_there (fields_of c.args.row.now) c.in_ok-get.field-0.now c.in_ok-get-2.field-0.now c.in_ok-get-3.field-0.now
    (sym c.len.ensures ∙ c.if-len-ne3.false) c.in_ok-get.ensures.value c.in_ok-get-2.ensures.value c.in_ok-get-3.ensures.value)
