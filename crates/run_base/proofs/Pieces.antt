-- The bytes of a file, by the pieces that were read of it.
use Rattle.std.proofs.Common.{◌≡◌, ℕ, ◌<◌, ◌+◌, ◌⊎◌, inl, inr, List, [], ◌++◌, length, drop, nat_lt, true, refl, sym, ap, ◌∙◌, subst, arith, append-nil, length-append, unwrap_or, IsSome, Some, None, IfSome, IfOk, Result, Ok, Err}
use Rattle.std.specs.declared.option.Option.{Option}
use Rattle.std.specs.Option.{option_map}
use Rattle.std.proofs.lemmas.Result.{IfOk-weaker}
use Rattle.std.specs.FinMap.{get}
use Rattle.std.specs.Io.KnownBytes.{prepend_known}
use Rattle.std.proofs.lemmas.Bool.Decides.{nat_tests}
use Rattle.std.proofs.lemmas.Option.{same_Some}
use Rattle.rt_outside.specs.Store.{Store, Contents, contents_told, opened, left, left_told, TellsHeld, GivesNext}
use Rattle.rt_outside.specs.declared.opening.Opening.TheVariants as opening
use Rattle.feed_values.specs.Accepted.{snapshot_limit}
use Rattle.feed_codec.specs.declared.refusal.Reason.TheVariants.{TooLarge}
use Rattle.feed_codec.specs.declared.refusal.Refusal.{Refusal}
use Rattle.feed_codec.specs.Refusal.{refusal, refused}
use Rattle.feed_stream.specs.Sofar.{Sofar}
use Rattle.feed_stream.specs.Came.{Came}
use Rattle.run_base.specs.Pieces.{TellsCame, TellsPieces}
use Rattle.run_base.specs.Found.{bytes_in, unless_faulty}
use Rattle.run_base.proofs.Refusals.{large_refusal}

-- ---- while pieces are read

left_is : (first now : Store) (pieces : List ℕ) → left_told (Some first) ≡ prepend_known pieces (left_told (Some now)) → left first ≡ pieces ++ left now
left_is first now pieces e = same_Some (left first) (pieces ++ left now) e

-- pieces came that, with what is left now, are what was left at first
abbrev pub ReadSoFar : Option Store → Option Store → Sofar → Type 0
ReadSoFar first now splitter = (pieces : List ℕ) × Came pieces splitter × (left_told first ≡ prepend_known pieces (left_told now))

pub none_read : (first : Option Store) (splitter : Sofar) → Came [] splitter → ReadSoFar first first splitter
none_read None splitter came = ([], came, refl)
none_read (Some store) splitter came = ([], came, refl)

-- nothing is left behind the pieces
pub at_end : (first now : Option Store) (splitter : Sofar) (cells : List ℕ) (n : ℕ) → ReadSoFar first now splitter → IfSome now (λ store. GivesNext (left store) cells n) → n ≡ 0 → 0 < length cells →
    IfSome first (λ store. TellsCame (left store) splitter)
at_end None now splitter cells n read next none some = tt
at_end (Some first) None splitter cells n read next none some = absurd (cc read.2)
at_end (Some first) (Some now) splitter cells n read next none some =
    (read.0, read.1, inl (left_is first now read.0 read.2 ∙ ap (λ rest. read.0 ++ rest) (next.end none some) ∙ append-nil read.0))

-- the pieces are more than a snapshot may be
pub at_limit : (first now : Option Store) (splitter : Sofar) (read : ReadSoFar first now splitter) → snapshot_limit < length read.0 → IfSome first (λ store. TellsCame (left store) splitter)
at_limit None now splitter read full = tt
at_limit (Some first) None splitter read full = absurd (cc read.2)
at_limit (Some first) (Some now) splitter read full = (read.0, read.1, inr (left now, left_is first now read.0 read.2, full))

-- more than the limit
pub past : (n : ℕ) → nat_lt snapshot_limit n ≡ true → snapshot_limit < n
past n h = grind (arith, nat_tests)

-- ---- what they make
too_large : (bytes : List ℕ) → snapshot_limit < length bytes → unless_faulty bytes (refusal bytes) ≡ Err (refused snapshot_limit TooLarge)
too_large bytes l = ap (unless_faulty bytes) (large_refusal bytes l)

longer : (pieces more : List ℕ) → snapshot_limit < length pieces → snapshot_limit < length (pieces ++ more)
longer pieces more l = rw (length-append pieces more) (omega (arith, l))

pieces_are : (rest pieces : List ℕ) → TellsPieces rest pieces → bytes_in (Some rest) ≡ unless_faulty pieces (refusal pieces)
pieces_are rest pieces (inl is) = ap (λ bytes. unless_faulty bytes (refusal bytes)) is
pieces_are rest pieces (inr full) =
    ap (λ bytes. unless_faulty bytes (refusal bytes)) full.1 ∙ too_large (pieces ++ full.0) (longer pieces full.0 full.2) ∙ sym (too_large pieces full.2)

got_pieces : (got : Option (List ℕ)) (pieces : List ℕ) → IsSome got → TellsPieces (drop 0 (unwrap_or got [])) pieces → bytes_in got ≡ unless_faulty pieces (refusal pieces)
got_pieces None pieces there tells = absurd (cc there)
got_pieces (Some bytes) pieces there tells = pieces_are bytes pieces tells

-- a file that was opened, and read by pieces
pub opened_found : {R E : Type 0} (told : Option Store) (name : List ℕ) (splitter : Sofar) (result : Result R E) (value : R → Result (List ℕ) Refusal) → IfSome told (λ store. TellsHeld store.contents name opening.Opened) →
    IfSome (option_map (λ store. opened store name opening.Opened) told) (λ store. TellsCame (left store) splitter)
    → ((pieces : List ℕ) → Came pieces splitter → IfOk result (λ found. unless_faulty pieces (refusal pieces) ≡ value found)) →
    IfSome (contents_told told) (λ held. IfOk result (λ found. bytes_in (get held name) ≡ value found))
opened_found None name splitter result value there tells is = tt
opened_found (Some store) name splitter result value there tells is =
    IfOk-weaker result _ _ (λ found h. got_pieces (get store.contents name) tells.0 there tells.2 ∙ h) (is tells.0 tells.1)

-- one that is absent
pub absent_pieces : (told : Option Store) (name : List ℕ) → IfSome told (λ store. TellsHeld store.contents name opening.Absent) → IfSome (contents_told told) (λ held. bytes_in (get held name) ≡ bytes_in None)
absent_pieces None name absent = tt
absent_pieces (Some store) name absent = ap bytes_in absent
