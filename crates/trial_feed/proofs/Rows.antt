-- A table that is written row by row.
use Rattle.std.proofs.Common.{◌≡◌, ℕ, ◌+◌, List, [], ◌∷◌, ◌++◌, codes, decimal, refl, ap, sym, ◌∙◌, append_assoc}
use Rattle.trial_feed.specs.Files.{line_of, trip_row, trip_rows, trips_text, stop_times_text}
use Rattle.trial_feed.proofs.Lists.{rows_more}

pub no_row : (before after : List ℕ) → trip_rows before after 0 ≡ []
unfolding trip_rows
no_row before after = refl

pub one_row : (before after : List ℕ) (k : ℕ) → trip_rows before after (k + 1) ≡ trip_rows before after k ++ trip_row before after k
unfolding trip_rows
one_row before after k = rows_more (trip_row before after) k

pub trips_are : (text : List ℕ) → text ≡ line_of (codes "route_id,service_id,trip_id") ++ trip_rows (codes "R1,WK,") [] 1999 → text ≡ trips_text
unfolding trips_text
trips_are text is = is

pub stop_times_are : (text : List ℕ)
    → text ≡ line_of (codes "trip_id,arrival_time,departure_time,stop_id,stop_sequence") ++ trip_rows [] (codes ",08:00:00,08:00:00,S1,1") 1999
    → text ≡ stop_times_text
unfolding stop_times_text
stop_times_are text is = is

-- a row as it is formatted
pub row_is : (before after : List ℕ) (k : ℕ) → before ++ 84 ∷ (decimal k ++ (after ++ 10 ∷ [])) ≡ trip_row before after k
row_is before after k = simp append_assoc

pub row_written : (header before after text added new : List ℕ) (k : ℕ) → text ≡ header ++ trip_rows before after k → added ≡ trip_row before after k
    → new ≡ text ++ added → new ≡ header ++ trip_rows before after (k + 1)
row_written header before after text added new k so row is =
    is ∙ (λ i. so i ++ row i) ∙ append_assoc header (trip_rows before after k) (trip_row before after k)
    ∙ ap (λ l. header ++ l) (sym (one_row before after k))
