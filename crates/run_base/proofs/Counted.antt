-- Counters that rise while a request is carried out.
use Rattle.std.proofs.Common.{◌≡◌, ℕ, ◌+◌, ◌≤◌, List, arith, inl, inr, subst, IfSome}
use Rattle.std.specs.declared.option.Option.{Option}
use Rattle.rt_outside.specs.Sink.{SinkState}
use Rattle.rt_outside.specs.Store.{Contents}
use Rattle.run_base.specs.declared.fault.Fault.{Fault}
use Rattle.run_base.specs.declared.fault.Fault.TheVariants as fault
use Rattle.run_base.specs.declared.input_fault.InputFault.{InputFault}
use Rattle.run_base.specs.declared.input_fault.InputFault.TheVariants as input
use Rattle.run_base.specs.declared.status.Status.{Status}
use Rattle.run_base.specs.declared.status.Status.TheVariants as answer
use Rattle.run_base.specs.Counted.{IsCounted, RoseAtMost, RoseBy, Work, no_work, plus}
use Rattle.run_base.specs.Faults.{IsCarriedOut, Says, SaysFault}
use Rattle.run_base.specs.Inputs.{SaysInputFault}
use Rattle.run_base.proofs.Chosen.{all, both, each}

-- ---- by exactly some work
pub by_none : (old : Work) → RoseBy no_work old old
by_none old = record { decodes = omega arith; tests = omega arith }

pub by_both : (a b old mid new : Work) → RoseBy a old mid → RoseBy b mid new → RoseBy (plus a b) old new
by_both a b old mid new first second = record {
  decodes = omega (arith, first.decodes, second.decodes);
  tests = omega (arith, first.tests, second.tests);
}

-- ---- by no more
-- they stay
pub nothing_more : (work old : Work) → RoseAtMost work old old
nothing_more work old = record { decodes = omega arith; tests = omega arith }

pub at_most : (work old new : Work) → RoseBy work old new → RoseAtMost work old new
at_most work old new by = record { decodes = omega (arith, by.decodes); tests = omega (arith, by.tests) }

pub most_both : (a b old mid new : Work) → RoseBy a old mid → RoseAtMost b mid new → RoseAtMost (plus a b) old new
most_both a b old mid new first second = record {
  decodes = omega (arith, first.decodes, second.decodes);
  tests = omega (arith, first.tests, second.tests);
}

pub most_first : (a b old new : Work) → RoseAtMost a old new → RoseAtMost (plus a b) old new
most_first a b old new most = record { decodes = omega (arith, most.decodes); tests = omega (arith, most.tests) }

-- ---- of a request
module _ (work : Contents → Work) (told : Option Contents) (old new : Work) (result : Status) where
  -- it was carried out
  pub counted_whole : IfSome told (λ held. RoseBy (work held) old new) → IsCounted work told old new result
  counted_whole by = record { exact = λ c. by; most = each told _ _ (λ held b. at_most (work held) old new b) by }

  -- or it wasn't
  pub counted_part : (IsCarriedOut result → ⊥) → IfSome told (λ held. RoseAtMost (work held) old new) → IsCounted work told old new result
  counted_part cut most = record { exact = λ c. absurd (cut c); most = most }

  -- it is a part of another one, whose work is equal
  pub counted_within : (whole : Contents → Work) (first : Option Contents) → told ≡ first → IfSome first (λ held. work held ≡ whole held) → IsCounted work told old new result →
      IsCounted whole first old new result
  counted_within whole first same is counted = record {
    exact = λ c. both first _ _ _ (λ held e by. subst (λ w. RoseBy w old new) e by) is (subst (λ o. IfSome o (λ held. RoseBy (work held) old new)) same (counted.exact c));
    most = both first _ _ _ (λ held e most. subst (λ w. RoseAtMost w old new) e most) is (subst (λ o. IfSome o (λ held. RoseAtMost (work held) old new)) same counted.most);
  }

-- it ended before anything was decoded or tested
pub counted_none : (work : Contents → Work) (told : Option Contents) (old : Work) (result : Status) → (IsCarriedOut result → ⊥) → IsCounted work told old old result
counted_none work told old result cut = counted_part work told old old result cut (all told _ (λ held. nothing_more (work held) old))

-- ---- answers of one that wasn't carried out
pub says_ends : (text : List ℕ) (meant : Status) (before after : SinkState) (result : Status) → (IsCarriedOut meant → ⊥) → Says text meant before after result → IsCarriedOut result → ⊥
says_ends text meant before after result none (inl said) c = none (subst IsCarriedOut said.0 c)
says_ends text meant before after result none (inr said) c = subst IsCarriedOut said.0 c

pub fault_ends : (why : Fault) (file : List ℕ) (before after : SinkState) (result : Status) → SaysFault why file before after result → IsCarriedOut result → ⊥
fault_ends fault.Read file before after result = says_ends _ answer.ReadFault before after result (λ c. c)
fault_ends fault.Write file before after result = says_ends _ answer.WriteFault before after result (λ c. c)
fault_ends fault.Memory file before after result = says_ends _ answer.Memory before after result (λ c. c)

pub input_ends : (why : InputFault) (before after : SinkState) (result : Status) → SaysInputFault why before after result → IsCarriedOut result → ⊥
input_ends (input.Read name) before after result = says_ends _ answer.ReadFault before after result (λ c. c)
input_ends (input.ReadIn folder name) before after result = says_ends _ answer.ReadFault before after result (λ c. c)
input_ends input.Memory before after result = says_ends _ answer.Memory before after result (λ c. c)
input_ends (input.Refused text) before after result = says_ends _ answer.Refused before after result (λ c. c)
