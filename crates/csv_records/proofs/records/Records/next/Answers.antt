use Rattle.std.proofs.Common.{◌≡◌, Bool, true, false, refl, sym, ◌∙◌}
use Rattle.std.specs.Prelude.{not}
use Rattle.std.proofs.lemmas.Bool.{true≢false}
use Rattle.csv.specs.Records.{fields_of}
use Rattle.csv_records.proofs.Steps.{none_was_left, reads_on, row_was_first}
use Rattle.csv_records.proofs.records.Records.next.Goals as goal

was_found : (found : Bool) → not found ≡ false → found ≡ true
was_found true e = refl
was_found false e = absurd (true≢false e)

pub invariant_of-self-2 : goal.invariant_of-self-2
invariant_of-self-2 c = λ going.
    let old = c.self.invariant c.if-self.false in
    let there = was_found c.in-Ok.found going in
    let step = rw (c.in-Ok.is, there) at c.read_byte_record.ensures.reads old.untrimmed old.ready in
    let on = rw c.in-Ok.is at c.read_byte_record.ensures.reads_on in
    reads_on c.self.inside.reader c.read_byte_record.new.self (fields_of c.read_byte_record.new.row) old step (on there)

pub returns-clause-row : goal.returns-clause-row
returns-clause-row c = λ there.
    let old = c.self.invariant c.if-self.false in
    let step = rw (c.in-Ok.is, there) at c.read_byte_record.ensures.reads old.untrimmed old.ready in
    rw there (sym c.self.view_is ∙ rw c.if-self.false (row_was_first c.self.inside.reader c.read_byte_record.new.self (fields_of c.read_byte_record.new.row) old step))

pub returns-clause-end : goal.returns-clause-end
returns-clause-end c = λ none.
    let old = c.self.invariant c.if-self.false in
    let step = rw (c.in-Ok.is, none) at c.read_byte_record.ensures.reads old.untrimmed old.ready in
    sym c.self.view_is ∙ rw c.if-self.false (none_was_left c.self.inside.reader c.read_byte_record.new.self (fields_of c.read_byte_record.new.row) old step)
