-- The lines of a file that is read by pieces.
use Rattle.std.proofs.Common.{◌≡◌, ℕ, ◌<◌, ◌⊎◌, inl, inr, List, [], ◌++◌, length, drop, refl, sym, ap, ◌∙◌, subst, append-nil, unwrap_or, IsSome, Some, None, IfSome, IfOk, IfErr, Result, Ok, Err}
use Rattle.std.proofs.lemmas.Option.{same_Some}
use Rattle.std.specs.declared.option.Option.{Option}
use Rattle.std.specs.Option.{option_map}
use Rattle.std.specs.FinMap.{get}
use Rattle.std.specs.Io.KnownBytes.{prepend_known}
use Rattle.rt_outside.specs.Store.{Store, Contents, contents_told, opened, left, left_told, TellsHeld, GivesNext}
use Rattle.rt_outside.specs.declared.opening.Opening.TheVariants as opening
use Rattle.rt_outside.specs.declared.read_end.ReadEnd.{ReadEnd}
use Rattle.rt_outside.specs.declared.read_end.ReadEnd.TheVariants as end
use Rattle.report_counts.specs.Counts.{Ignored, counts_of}
use Rattle.report_counts.specs.declared.counts.Counts.{Counts}
use Rattle.report_input.specs.Lines.{lines_in}
use Rattle.report_input.specs.Reading.{IsReading, TellsCounts}
use Rattle.report_input.specs.declared.reader.Reader.{Reader}

-- bytes came that, with what is left now, are what was left at first
abbrev pub HasCome : Ignored → Option Store → Option Store → Reader → Type 0
HasCome ignored first now reader = (bytes : List ℕ) × IsReading ignored bytes reader × (left_told first ≡ prepend_known bytes (left_told now))

pub none_came : (ignored : Ignored) (first : Option Store) (reader : Reader) → IsReading ignored [] reader → HasCome ignored first first reader
none_came ignored None reader is = ([], is, refl)
none_came ignored (Some store) reader is = ([], is, refl)

left_is : (first now : Store) (bytes : List ℕ) → left_told (Some first) ≡ prepend_known bytes (left_told (Some now)) → left first ≡ bytes ++ left now
left_is first now bytes e = same_Some (left first) (bytes ++ left now) e

-- nothing is left: all that was left at first came
pub all_came : (ignored : Ignored) (first now : Option Store) (reader : Reader) (cells : List ℕ) (n : ℕ) (counts : Counts) → HasCome ignored first now reader
    → IfSome now (λ store. GivesNext (left store) cells n) → n ≡ 0 → 0 < length cells → ((came : List ℕ) → IsReading ignored came reader → counts ≡ counts_of ignored (lines_in came))
    → IfSome first (λ store. counts ≡ counts_of ignored (lines_in (left store)))
all_came ignored None now reader cells n counts come next none some is = tt
all_came ignored (Some first) None reader cells n counts come next none some is = absurd (cc come.2)
all_came ignored (Some first) (Some now) reader cells n counts come next none some is =
    is come.0 come.1 ∙ ap (λ bytes. counts_of ignored (lines_in bytes)) (sym (left_is first now come.0 come.2 ∙ ap (λ rest. come.0 ++ rest) (next.end none some) ∙ append-nil come.0))

-- ---- a file that was opened
module _ (ignored : Ignored) (contents : Contents) (name : List ℕ) where
  got_counts : (counts : Counts) (got : Option (List ℕ)) → get contents name ≡ got → IsSome got → counts ≡ counts_of ignored (lines_in (drop 0 (unwrap_or got []))) → TellsCounts ignored contents name (Ok counts)
  got_counts counts None e there is = absurd (cc there)
  got_counts counts (Some bytes) e there is = (bytes, e, is)

  failed_counts : (e : ReadEnd) → (e ≡ end.ReadFault) ⊎ (e ≡ end.Memory) → TellsCounts ignored contents name (Err e)
  failed_counts e (inl is) = subst (λ x. TellsCounts ignored contents name (Err x)) (sym is) tt
  failed_counts e (inr is) = subst (λ x. TellsCounts ignored contents name (Err x)) (sym is) tt

pub opened_counts : (ignored : Ignored) (told : Option Store) (name : List ℕ) (result : Result Counts ReadEnd) → IfSome told (λ store. TellsHeld store.contents name opening.Opened)
    → IfSome (option_map (λ store. opened store name opening.Opened) told) (λ store. IfOk result (λ counts. counts ≡ counts_of ignored (lines_in (left store))))
    → IfErr result (λ e. (e ≡ end.ReadFault) ⊎ (e ≡ end.Memory)) → IfSome (contents_told told) (λ contents. TellsCounts ignored contents name result)
opened_counts ignored None name result there is failed = tt
opened_counts ignored (Some store) name (Ok counts) there is failed = got_counts ignored store.contents name counts (get store.contents name) refl there is
opened_counts ignored (Some store) name (Err e) there is failed = failed_counts ignored store.contents name e failed
