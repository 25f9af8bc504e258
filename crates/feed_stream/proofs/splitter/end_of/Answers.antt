use Rattle.std.proofs.Common.{ℕ, List, Some, length, sym, ap, ◌∙◌}
use Rattle.feed_codec.specs.declared.refusal.Refusal.{Refusal}
use Rattle.feed_stream.specs.Ends.{header_end_fault}
use Rattle.feed_stream.specs.Parts.{header_held}
use Rattle.feed_stream.proofs.Ends.{end_decides, laid_whole, refused_early}
use Rattle.feed_stream.proofs.splitter.end_of.Goals as goal

pub returns-in-Some-clause-answer : goal.returns-in-Some-clause-answer
returns-in-Some-clause-answer c =
    let w = c.args.walk in
    refused_early w.bytes.items w.reached.next c.in-Some.fault c.requires.bytes_are c.requires.small c.requires.reached.walked_to (rw c.in-Some.is at c.requires.reached.rest)
    ∙ ap (λ (r : Refusal). Some r) (sym c.refusal_of.ensures)

pub of-requires-clause-layout : goal.of-requires-clause-layout
of-requires-clause-layout c =
    let w = c.args.walk in
    laid_whole w.bytes.items w.reached.next w.reached.layout (rw c.in_default.is at c.requires.reached.rest) c.requires.reached.layout

pub of-requires-clause-accepted : goal.of-requires-clause-accepted
of-requires-clause-accepted c =
    let w = c.args.walk in
    let none = rw c.in_default.is at c.requires.reached.rest in
    end_decides w.bytes.items w.reached.next w.reached.layout c.requires.bytes_are c.requires.small c.requires.reached.walked_to none (laid_whole w.bytes.items w.reached.next w.reached.layout none c.requires.reached.layout)
    ∙ ap (λ (b : List ℕ). header_end_fault (length b) (header_held b w.reached.layout.header)) (sym c.deref.ensures.value) ∙ (rw c.in-Ok.is at c.check.ensures)

pub returns-in-Err-clause-answer : goal.returns-in-Err-clause-answer
returns-in-Err-clause-answer c =
    let w = c.args.walk in
    let none = rw c.in_default.is at c.requires.reached.rest in
    end_decides w.bytes.items w.reached.next w.reached.layout c.requires.bytes_are c.requires.small c.requires.reached.walked_to none (laid_whole w.bytes.items w.reached.next w.reached.layout none c.requires.reached.layout)
    ∙ ap (λ (b : List ℕ). header_end_fault (length b) (header_held b w.reached.layout.header)) (sym c.deref.ensures.value) ∙ (rw c.in-Err.is at c.check.ensures)
