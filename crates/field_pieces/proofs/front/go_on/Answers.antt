use Rattle.std.proofs.Common.{◌≡◌, ◌++◌, ◌∷◌, [], ◌<◌, ◌≤◌, ℕ, List, length, append-nil, sym, ap, subst, ◌∙◌, arith}
use Rattle.std.proofs.lemmas.List.{length-append}
use Rattle.rt_wire.specs.Placed.{field_from}
use Rattle.rt_wire.proofs.Places.{length_zero}
use Rattle.field_pieces.specs.Fronts.{IsFront, IsGroupTo}
use Rattle.field_pieces.proofs.FrontSteps as steps
use Rattle.field_pieces.proofs.front.go_on.Goals as goal

pub loop-tag-init : goal.loop-tag-init
loop-tag-init c =
    let f = c.args.front.now in
    record { front = c.requires.front; within = steps.front_within c.args.bytes.now (f.outer.items ++ f.number ∷ []) c.args.start f.at (omega (arith, c.requires.start)) c.requires.front }

pub returns-in-Err-clause-found : goal.returns-in-Err-clause-found
returns-in-Err-clause-found c =
    let f = c.loop-tag.front in
    steps.no_tag c.args.bytes.now f.outer.items c.args.start f.number f.at c.in-Err.fault (λ i. omega (arith, c.type_inv.bytes i)) c.requires.start c.loop-tag.invariant.front (sym c.in-Err.ensures.value)

pub returns-then-len-ge-DEPTH_LIMIT-clause-found : goal.returns-then-len-ge-DEPTH_LIMIT-clause-found
returns-then-len-ge-DEPTH_LIMIT-clause-found c =
    let f = c.loop-tag.front in
    let deep : 100 ≤ length (f.outer.items ++ f.number ∷ []) = omega (arith, c.if-len-ge-DEPTH_LIMIT.true, c.len.ensures, f.outer.ok.0, length-append f.outer.items (f.number ∷ [])) in
    rw c.new.ensures (steps.too_deep c.args.bytes.now f.outer.items c.args.start f.number f.at c.in-Ok.tag (λ i. omega (arith, c.type_inv.bytes i)) c.requires.start c.loop-tag.invariant.front (sym c.in-Ok.ensures.value) c.in-StartGroup.is deep)

pub loop-tag-preserved-in-StartGroup : goal.loop-tag-preserved-in-StartGroup
loop-tag-preserved-in-StartGroup c =
    let f = c.loop-tag.front in
    let room : length (f.outer.items ++ f.number ∷ []) < 100 = omega (arith, c.if-len-ge-DEPTH_LIMIT.false, c.len.ensures, f.outer.ok.0, length-append f.outer.items (f.number ∷ [])) in
    record {
      front = rw c.in_ok-push-in-StartGroup.ensures.items
          (steps.group c.args.bytes.now f.outer.items c.args.start f.number f.at c.in-Ok.tag (omega (arith, c.requires.start)) c.loop-tag.invariant.front (sym c.in-Ok.ensures.value) c.in-StartGroup.is room);
      within = c.in-Ok.ensures.within;
    }

pub returns-then-tag-front-clause-found : goal.returns-then-tag-front-clause-found
returns-then-tag-front-clause-found c =
    let f = c.loop-tag.front in
    rw c.new-then-tag-front.ensures (steps.another c.args.bytes.now f.outer.items c.args.start f.number f.at c.in-Ok.tag c.requires.start c.loop-tag.invariant.front (sym c.in-Ok.ensures.value) c.in-EndGroup.is c.if-tag-front.true)

pub returns-in-None-clause-found : goal.returns-in-None-clause-found
returns-in-None-clause-found c =
    let f = c.loop-tag.front in
    let none : f.outer.items ≡ [] = length_zero f.outer.items (sym f.outer.ok.0 ∙ c.in-None.ensures.cases.0) in
    steps.ends c.args.bytes.now c.args.start f.number f.at c.in-Ok.tag (omega (arith, c.requires.start))
    (subst (λ (l : List ℕ). IsFront c.args.bytes.now c.args.start (l ++ f.number ∷ []) f.at) none c.loop-tag.invariant.front) (sym c.in-Ok.ensures.value) c.in-EndGroup.is c.if-tag-front.false

pub loop-tag-preserved-in-EndGroup : goal.loop-tag-preserved-in-EndGroup
loop-tag-preserved-in-EndGroup c =
    let f = c.loop-tag.front in
    let ns = c.pop.new.self.items in
    let m = c.in-Some.number in
    record {
      front = steps.inner_ends c.args.bytes.now ns c.args.start m f.number f.at c.in-Ok.tag (omega (arith, c.requires.start))
          (subst (λ (l : List ℕ). IsFront c.args.bytes.now c.args.start (l ++ f.number ∷ []) f.at) c.in-Some.ensures.items c.loop-tag.invariant.front) (sym c.in-Ok.ensures.value) c.in-EndGroup.is c.if-tag-front.false;
      within = c.in-Ok.ensures.within;
    }

pub loop-tag-preserved : goal.loop-tag-preserved
loop-tag-preserved c =
    let f = c.loop-tag.front in
    record {
      front = steps.field c.args.bytes.now f.outer.items c.args.start f.number f.at c.in-Ok-skip_value.next c.in-Ok.tag (λ i. omega (arith, c.type_inv.bytes i)) (omega (arith, c.requires.start)) c.loop-tag.invariant.front
          c.in_default.not-StartGroup c.in_default.not-EndGroup (sym c.in-Ok.ensures.value) (sym c.in-Ok-skip_value.ensures.value);
      within = c.in-Ok-skip_value.ensures.within;
    }

pub returns-in-Err-skip_value : goal.returns-in-Err-skip_value
returns-in-Err-skip_value c =
    let f = c.loop-tag.front in
    record {
      found = steps.no_value c.args.bytes.now f.outer.items c.args.start f.number f.at c.in-Ok.tag c.in-Err-skip_value.fault (λ i. omega (arith, c.type_inv.bytes i)) c.requires.start c.loop-tag.invariant.front
          c.in_default.not-StartGroup c.in_default.not-EndGroup (sym c.in-Ok.ensures.value) (sym c.in-Err-skip_value.ensures.value);
      front = c.loop-tag.invariant.front;
    }
