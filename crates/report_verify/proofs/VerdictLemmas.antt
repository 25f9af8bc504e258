-- The verdict that is computed is the one that the words of a report give.
use Rattle.std.proofs.Common.{◌≡◌, ◌++◌, if◌then◌else◌, ℕ, Bool, true, false, cond, List, [], ◌∷◌, Option, Some, None, IfSome, refl, sym, ap, ◌∙◌, subst}
use Rattle.std.specs.Prelude.{option_and_then}
use Rattle.std.specs.Str.{IsUtf8, is_utf8}
use Rattle.std.proofs.lemmas.List.{append_cancel_right}
use Rattle.std.proofs.lemmas.Option.{same_Some}
use Rattle.std.proofs.lemmas.Slice.Eq.{bytes_eq-Decides}
use Rattle.std.proofs.lemmas.Str.{IsUtf8-from_is_utf8, is_utf8-from_IsUtf8}
use Rattle.serde_json.specs.Data.{Data}
use Rattle.serde_json.specs.Read.{read}
use Rattle.serde_json.specs.Written.{compact_text}
use Rattle.rule_table.specs.Broken.{Breaks}
use Rattle.rule_table.specs.Found.{Found}
use Rattle.evidence.specs.DoesBreak.{does_break}
use Rattle.evidence.proofs.Decided.{does_break_is}
use Rattle.rule_table.specs.ClearSlots.{IsAmong}
use Rattle.rule_history.specs.Answered.{answer}
use Rattle.rule_history.specs.Findings.{findings}
use Rattle.rule_history.specs.History.{IsHistory, Snapshot}
use Rattle.rule_evidence.specs.Laws.{AllHold}
use Rattle.rule_evidence.proofs.Evidence.{evidence_shows}
use Rattle.timetable.specs.Timetables.{Tables}
use Rattle.rt_report.specs.declared.finding.LineKind.{LineKind}
use Rattle.rt_report.specs.Findings.{finding_data}
use Rattle.report_verify.specs.declared.said.Said.{Said}
use Rattle.report_verify.specs.declared.verdict.Verdict.{Verdict}
use Rattle.report_verify.specs.declared.verdict.Verdict.TheVariants as verdict
use Rattle.report_verify.specs.Said.{found_of, said_of}
use Rattle.report_verify.specs.Spelled.{if_printed, is_printed, spelled, spelled_in, tree_of}
use Rattle.report_verify.specs.Verdicts.{IsVerdict, IsWithin, Spells, SpellsNothing, is_other, is_other_line, judged, judged_or, tree_verdict, unspelled, verdict_of}
use Rattle.report_verify.proofs.ReadingLemmas.{finding_read}
use Rattle.report_verify.proofs.SaidLemmas.{finding_said, said_with}
use Rattle.report_verify.proofs.WithinLemmas.{said_within}

never : {P : Type 0} → true ≡ false → P
never e = absurd (cc)

nothing_is : {A P : Type 0} (x : A) → Some x ≡ None → P
nothing_is x e = absurd (cc)

-- ---- what a text spells is read of it
text_is : (text : List ℕ) (f : Found) (since : ℕ) (s : Spells text f since) → text ≡ compact_text (finding_data s.kind f since)
text_is text f since s = append_cancel_right text (compact_text (finding_data s.kind f since)) (10 ∷ []) s.same

tree_is : (text : List ℕ) (f : Found) (since : ℕ) (s : Spells text f since) → tree_of text ≡ Some (finding_data s.kind f since)
tree_is text f since s = rw (is_utf8-from_IsUtf8 text s.utf8) (ap read (text_is text f since s) ∙ finding_read s.kind f since s.within)

printed_is : (text : List ℕ) (f : Found) (since : ℕ) (s : Spells text f since) → is_printed text (said_with s.kind f since f.place) ≡ true
printed_is text f since s = (bytes_eq-Decides (compact_text (finding_data s.kind f since)) text).1 (sym (text_is text f since s))

spelled_is : (text : List ℕ) (f : Found) (since : ℕ) (s : Spells text f since) → spelled text ≡ Some (said_with s.kind f since f.place)
spelled_is text f since s =
    ap (option_and_then (spelled_in text)) (tree_is text f since s) ∙ ap (option_and_then (if_printed text)) (finding_said s.kind f since s.within)
    ∙ ap (λ b. if b then Some (said_with s.kind f since f.place) else None) (printed_is text f since s)

-- ---- what is read of a text is spelled by it
utf8_of : (text : List ℕ) (d : Data) → tree_of text ≡ Some d → IsUtf8 text
utf8_of text d e = by (is_utf8 text) refl
  where
    by : (b : Bool) → is_utf8 text ≡ b → IsUtf8 text
    by true u = IsUtf8-from_is_utf8 text u
    by false u = nothing_is d (sym e ∙ ap (λ b. cond b (read text) None) u)

printed_spells : (text : List ℕ) (said : Said) → IsUtf8 text → IsWithin (found_of said) said.since → is_printed text said ≡ true → Spells text (found_of said) said.since
printed_spells text said utf8 within h =
    record { kind = said.kind; same = ap (λ t. t ++ 10 ∷ []) (sym ((bytes_eq-Decides (compact_text (finding_data said.kind (found_of said) said.since)) text).0 h)); utf8 = utf8; within = within }

said_spells : (text : List ℕ) (o : Option Said) (said : Said) → IsUtf8 text → IfSome o (λ s. IsWithin (found_of s) s.since) → option_and_then (if_printed text) o ≡ Some said → Spells text (found_of said) said.since
said_spells text None said utf8 within e = nothing_is said (sym e)
said_spells text (Some read) said utf8 within e = by (is_printed text read) refl
  where
    by : (b : Bool) → is_printed text read ≡ b → Spells text (found_of said) said.since
    by true h =
        let same : read ≡ said = same_Some read said (sym (ap (λ b. cond b (Some read) None) h) ∙ e) in
        subst (λ s. Spells text (found_of s) s.since) same (printed_spells text read utf8 within h)
    by false h = nothing_is said (sym e ∙ ap (λ b. cond b (Some read) None) h)

spells : (text : List ℕ) (d : Data) (said : Said) → tree_of text ≡ Some d → spelled_in text d ≡ Some said → Spells text (found_of said) said.since
spells text d said tree e = said_spells text (said_of d) said (utf8_of text d tree) (said_within d) e

nothing_spelled : (text : List ℕ) → spelled text ≡ None → SpellsNothing text
nothing_spelled text e f since s = nothing_is (said_with s.kind f since f.place) (sym (spelled_is text f since s) ∙ e)

-- ---- a text spells one finding
found_in : Option Said → Option Found
found_in None = None
found_in (Some said) = Some (found_of said)

since_in : Option Said → Option ℕ
since_in None = None
since_in (Some said) = Some said.since

pub spelled_once_lem : (text : List ℕ) (f g : Found) (s t : ℕ) → Spells text f s → Spells text g t → (f ≡ g) × (s ≡ t)
unfolding found_in since_in
spelled_once_lem text f g s t a b =
    let same : Some (said_with a.kind f s f.place) ≡ Some (said_with b.kind g t g.place) = sym (spelled_is text f s a) ∙ spelled_is text g t b in
    (same_Some f g (ap found_in same), same_Some s t (ap since_in same))

-- ---- the verdict
judged_is : (text : List ℕ) (said : Said) → Spells text (found_of said) said.since → IsVerdict text (judged said)
judged_is text said s = by (does_break said.rule said.place said.facts) refl
  where
    by : (b : Bool) → does_break said.rule said.place said.facts ≡ b → IsVerdict text (cond b (verdict.Confirmed (found_of said) said.since) verdict.Denied)
    by true e = (s, (does_break_is said.rule said.place said.facts).0 e)
    by false e = (found_of said, said.since, s, λ breaks. never (sym ((does_break_is said.rule said.place said.facts).1 breaks) ∙ e))

unspelled_is : (text : List ℕ) (d : Data) → tree_of text ≡ Some d → SpellsNothing text → IsVerdict text (unspelled d)
unspelled_is text d tree none = by (is_other d) refl
  where
    by : (b : Bool) → is_other d ≡ b → IsVerdict text (cond b verdict.Other verdict.Malformed)
    by true e = (none, ap is_other_line tree ∙ e)
    by false e = (none, ap is_other_line tree ∙ e)

pub verdict_is_lem : (text : List ℕ) → IsVerdict text (verdict_of text)
verdict_is_lem text = by (tree_of text) refl
  where
    said : (d : Data) → tree_of text ≡ Some d → (o : Option Said) → spelled_in text d ≡ o → IsVerdict text (judged_or (unspelled d) o)
    said d tree None e = unspelled_is text d tree (nothing_spelled text (ap (option_and_then (spelled_in text)) tree ∙ e))
    said d tree (Some s) e = judged_is text s (spells text d s tree e)

    by : (o : Option Data) → tree_of text ≡ o → IsVerdict text (tree_verdict text o)
    by None tree = (nothing_spelled text (ap (option_and_then (spelled_in text)) tree), ap is_other_line tree)
    by (Some d) tree = said d tree (spelled_in text d) refl

-- the verdict on what is spelled
spelled_verdict : (text : List ℕ) (f : Found) (since : ℕ) (s : Spells text f since) → verdict_of text ≡ judged (said_with s.kind f since f.place)
spelled_verdict text f since s =
    ap (tree_verdict text) (tree_is text f since s)
    ∙ ap (judged_or (unspelled (finding_data s.kind f since)))
    (ap (option_and_then (if_printed text)) (finding_said s.kind f since s.within) ∙ ap (λ b. if b then Some (said_with s.kind f since f.place) else None) (printed_is text f since s))

confirmed_is : (text : List ℕ) (f : Found) (since : ℕ) → Spells text f since → Breaks f.rule f.place f.facts → verdict_of text ≡ verdict.Confirmed f since
confirmed_is text f since s breaks =
    spelled_verdict text f since s ∙ ap (λ b. if b then verdict.Confirmed f since else verdict.Denied) ((does_break_is f.rule f.place f.facts).1 breaks)

denied_is : (text : List ℕ) (f : Found) (since : ℕ) → Spells text f since → (Breaks f.rule f.place f.facts → ⊥) → verdict_of text ≡ verdict.Denied
denied_is text f since s none = spelled_verdict text f since s ∙ by (does_break f.rule f.place f.facts) refl
  where
    by : (b : Bool) → does_break f.rule f.place f.facts ≡ b → cond b (verdict.Confirmed f since) verdict.Denied ≡ verdict.Denied
    by true e = absurd (none ((does_break_is f.rule f.place f.facts).0 e))
    by false e = refl

-- and on what isn't

unspelled_verdict : (text : List ℕ) (b : Bool) → SpellsNothing text → is_other_line (tree_of text) ≡ b → verdict_of text ≡ (if b then verdict.Other else verdict.Malformed)
unspelled_verdict text b none is = by (tree_of text) refl
  where
    said : (d : Data) → tree_of text ≡ Some d → (o : Option Said) → spelled_in text d ≡ o → judged_or (unspelled d) o ≡ (if b then verdict.Other else verdict.Malformed)
    said d tree None e = ap (λ c. if c then verdict.Other else verdict.Malformed) (sym (ap is_other_line tree) ∙ is)
    said d tree (Some s) e = absurd (none (found_of s) s.since (spells text d s tree e))

    by : (o : Option Data) → tree_of text ≡ o → tree_verdict text (tree_of text) ≡ (if b then verdict.Other else verdict.Malformed)
    by None tree = ap (tree_verdict text) tree ∙ ap (λ c. if c then verdict.Other else verdict.Malformed) (sym (ap is_other_line tree) ∙ is)
    by (Some d) tree = ap (tree_verdict text) tree ∙ said d tree (spelled_in text d) refl

pub verdict_is_one_lem : (text : List ℕ) (v : Verdict) → IsVerdict text v → v ≡ verdict_of text
verdict_is_one_lem text (verdict.Confirmed f since) h = sym (confirmed_is text f since h.0 h.1)
verdict_is_one_lem text verdict.Denied h = sym (denied_is text h.0 h.1 h.2 h.3)
verdict_is_one_lem text verdict.Other h = sym (unspelled_verdict text true h.0 h.1)
verdict_is_one_lem text verdict.Malformed h = sym (unspelled_verdict text false h.0 h.1)

pub printed_is_confirmed_lem : (kind : LineKind) (f : Found) (since : ℕ) → IsWithin f since → Breaks f.rule f.place f.facts → IsUtf8 (compact_text (finding_data kind f since))
    → verdict_of (compact_text (finding_data kind f since)) ≡ verdict.Confirmed f since
printed_is_confirmed_lem kind f since within breaks utf8 =
    confirmed_is (compact_text (finding_data kind f since)) f since (record { kind = kind; same = refl; utf8 = utf8; within = within }) breaks

-- ---- what it shows
pub confirmed_shows_lem : (text : List ℕ) (f : Found) (since : ℕ) (t : Option Tables) (h : List Snapshot) → verdict_of text ≡ verdict.Confirmed f since → IsHistory h → AllHold (answer t h f.place) f.facts
    → IsAmong f (findings t h)
confirmed_shows_lem text f since t h is history hold =
    let confirmed : IsVerdict text (verdict.Confirmed f since) = subst (IsVerdict text) is (verdict_is_lem text) in
    evidence_shows t h f.rule f.place f.facts history confirmed.1 hold
