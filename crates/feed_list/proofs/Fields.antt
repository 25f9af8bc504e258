-- The three fields of a row.
use Rattle.std.proofs.Common.{◌≡◌, ◌≢◌, ◌<◌, ℕ, zero, suc, List, [], ◌∷◌, length, Some, None, refl, arith}
use Rattle.csv.specs.Records.{field_at}
use Rattle.csv_records.specs.Records.{Record}
use Rattle.feed_list.specs.Rows.{fields_in}

three : (a b c d e f : List ℕ) → a ≡ d → b ≡ e → c ≡ f → fields_in (a ∷ b ∷ c ∷ []) ≡ Some (record { feed = d; moment = e; path = f })
three a b c d e f ea eb ec = rw (ea, eb, ec) refl

-- a record of three fields is these fields
pub fields_there : (xs : Record) (feed moment path : List ℕ) → length xs ≡ 3 → Some feed ≡ field_at xs 0 → Some moment ≡ field_at xs 1 → Some path ≡ field_at xs 2
    → fields_in xs ≡ Some (record { feed = feed; moment = moment; path = path })
unfolding field_at
fields_there [] feed moment path n a b c = absurd cc
fields_there (x ∷ []) feed moment path n a b c = absurd cc
fields_there (x ∷ y ∷ []) feed moment path n a b c = absurd cc
fields_there (x ∷ y ∷ z ∷ []) feed moment path n a b c =
    let same_feed : x ≡ feed = cc in
    let same_moment : y ≡ moment = cc in
    let same_path : z ≡ path = cc in
    three x y z feed moment path same_feed same_moment same_path
fields_there (x ∷ y ∷ z ∷ w ∷ xs) feed moment path n a b c = absurd (omega (arith, n))

-- each of three fields is there
pub field_missing : (xs : Record) (i : ℕ) → length xs ≡ 3 → i < 3 → None ≡ field_at xs i → ⊥
unfolding field_at
field_missing [] i n lt e = cc
field_missing (x ∷ xs) zero n lt e = cc
field_missing (x ∷ []) (suc i) n lt e = cc
field_missing (x ∷ y ∷ xs) (suc zero) n lt e = cc
field_missing (x ∷ y ∷ []) (suc (suc i)) n lt e = cc
field_missing (x ∷ y ∷ z ∷ xs) (suc (suc zero)) n lt e = cc
field_missing (x ∷ y ∷ z ∷ xs) (suc (suc (suc i))) n lt e = omega (arith, lt)

-- a record of another number of fields is no row
pub not_three : (xs : Record) → length xs ≢ 3 → fields_in xs ≡ None
not_three [] n = refl
not_three (x ∷ []) n = refl
not_three (x ∷ y ∷ []) n = refl
not_three (x ∷ y ∷ z ∷ []) n = absurd (n refl)
not_three (x ∷ y ∷ z ∷ w ∷ xs) n = refl
