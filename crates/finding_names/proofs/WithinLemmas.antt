-- What is read is within the bounds of its type.
use Rattle.std.proofs.Common.{◌≡◌, ◌<◌, ◌^◌, ◌==◌, ℕ, List, [], ◌∷◌, Bool, true, false, cond, Option, Some, None, IfSome, nat_lt, bytes_eq, ◌&&◌, refl, sym, ◌∙◌, lit<}
use Rattle.std.specs.Prelude.{find, option_map, option_and_then}
use Rattle.std.specs.List.{before_first, after_first}
use Rattle.std.proofs.lemmas.Bool.{and_parts, ltb-true}
use Rattle.feed_values.specs.declared.slot.Slot.{Slot}
use Rattle.feed_values.specs.Cells.{has_item, way}
use Rattle.feed_values.specs.PathTexts.{text_before_index, text_after_index}
use Rattle.rule_table.specs.declared.ask.Ask.{Ask}
use Rattle.rule_table.specs.declared.ask.Ask.TheVariants as ask
use Rattle.rt_words.specs.Numbers.{below, number_of}
use Rattle.finding_names.specs.declared.ask_name.AskName.{AskName}
use Rattle.finding_names.specs.declared.ask_name.AskName.TheVariants as name
use Rattle.finding_names.specs.Asks.{Keys, ask_of, feed_and_text, kind_and_text, kind_and_texts, numbered, of_feed, only, only_kind, only_path, text_and_number, two_texts, without_keys}
use Rattle.finding_names.specs.Laws.{IsAskWithin, IsPathWithin}
use Rattle.finding_names.specs.Numbers.{u8_named, u32_named}
use Rattle.feed_values.specs.SlotNames.{all_slots}
use Rattle.finding_names.specs.Paths.{after_opening, first_given, item_path, item_slot, path_named, plain_path, plain_slot}

-- ---- of what is there
module _ {A B : Type 0} (P : B → Type 0) where
  pub if_map : (f : A → B) (o : Option A) → IfSome o (λ x. P (f x)) → IfSome (option_map f o) P
  if_map f None h = tt
  if_map f (Some x) h = h

  pub if_then : (Q : A → Type 0) (f : A → Option B) (o : Option A) → ((x : A) → Q x → IfSome (f x) P) → IfSome o Q → IfSome (option_and_then f o) P
  if_then Q f None h q = tt
  if_then Q f (Some x) h q = h x q

pub if_all : {A : Type 0} (P : A → Type 0) (o : Option A) → ((x : A) → P x) → IfSome o P
if_all P None h = tt
if_all P (Some x) h = h x

if_first : {A : Type 0} (P : A → Type 0) (a b : Option A) → IfSome a P → IfSome b P → IfSome (first_given a b) P
if_first P None b h k = k
if_first P (Some x) b h k = h

if_found : {A : Type 0} (test : A → Bool) (xs : List A) → IfSome (find test xs) (λ x. test x ≡ true)
if_found test [] = tt
if_found test (x ∷ xs) = by (test x) refl (if_found test xs)
  where
    by : (b : Bool) → test x ≡ b → IfSome (find test xs) (λ y. test y ≡ true) → IfSome (cond b (Some x) (find test xs)) (λ y. test y ≡ true)
    by true e rest = e
    by false e rest = rest

-- ---- numbers
pub below_within : (bound n : ℕ) → IfSome (below bound n) (λ m. m < bound)
below_within bound n = by (nat_lt n bound) refl
  where
    by : (b : Bool) → nat_lt n bound ≡ b → IfSome (cond b (Some n) None) (λ m. m < bound)
    by true e = ltb-true n bound e
    by false e = tt

u32_within : (text : List ℕ) → IfSome (u32_named text) (λ n. n < 2 ^ 32)
u32_within text = if_then (λ n. n < 2 ^ 32) (λ _. Unit {0}) (below (2 ^ 32)) (number_of text) (λ n _. below_within (2 ^ 32) n) (if_all (λ _. Unit {0}) (number_of text) (λ _. tt))

u8_within : (text : List ℕ) → IfSome (u8_named text) (λ n. n < 2 ^ 8)
u8_within text = if_then (λ n. n < 2 ^ 8) (λ _. Unit {0}) (below (2 ^ 8)) (number_of text) (λ n _. below_within (2 ^ 8) n) (if_all (λ _. Unit {0}) (number_of text) (λ _. tt))

-- ---- paths
never : {P : Type 0} → true ≡ false → P
never e = absurd (cc)

item_within : (slot : Slot) (i : ℕ) → has_item (way slot) ≡ true → i < 2 ^ 32 → IsPathWithin (record { slot = slot; index = i })
item_within slot i is small = record { plain = λ e. never (sym is ∙ e); small = small }

item_slot_has : (before after : List ℕ) → IfSome (item_slot before after) (λ slot. has_item (way slot) ≡ true)
item_slot_has before after =
    weaker (item_slot before after)
    (if_found (λ slot. (has_item (way slot) && bytes_eq (text_before_index slot) before) && bytes_eq (text_after_index slot) after) all_slots)
  where
    weaker : (o : Option Slot) → IfSome o (λ slot. ((has_item (way slot) && bytes_eq (text_before_index slot) before) && bytes_eq (text_after_index slot) after) ≡ true) → IfSome o (λ slot. has_item (way slot) ≡ true)
    weaker None h = tt
    weaker (Some slot) h = (and_parts (has_item (way slot)) (bytes_eq (text_before_index slot) before) (and_parts (has_item (way slot) && bytes_eq (text_before_index slot) before) (bytes_eq (text_after_index slot) after) h).0).0

item_path_within : (before index after : List ℕ) → IfSome (item_path before index after) IsPathWithin
item_path_within before index after =
    if_then IsPathWithin (λ n. n < 2 ^ 32) (λ i. option_map (λ slot. record { slot = slot; index = i }) (item_slot before after)) (u32_named index)
    (λ i small. at i small (item_slot before after) (item_slot_has before after)) (u32_within index)
  where
    at : (i : ℕ) → i < 2 ^ 32 → (o : Option Slot) → IfSome o (λ slot. has_item (way slot) ≡ true) → IfSome (option_map (λ slot. record { slot = slot; index = i }) o) IsPathWithin
    at i small None h = tt
    at i small (Some slot) h = item_within slot i h small

plain_within : (slot : Slot) → IsPathWithin (record { slot = slot; index = 0 })
plain_within slot = record { plain = λ _. refl; small = lit< tt }

pub path_within : (text : List ℕ) → IfSome (path_named text) IsPathWithin
path_within text =
    if_first IsPathWithin (item_path (before_first (λ byte. byte == 91) text) (before_first (λ byte. byte == 93) (after_opening text)) (after_first (λ byte. byte == 93) (after_opening text))) (plain_path text)
    (item_path_within (before_first (λ byte. byte == 91) text) (before_first (λ byte. byte == 93) (after_opening text)) (after_first (λ byte. byte == 93) (after_opening text)))
    (if_map IsPathWithin (λ slot. record { slot = slot; index = 0 }) (plain_slot text) (if_all (λ slot. IsPathWithin (record { slot = slot; index = 0 })) (plain_slot text) plain_within))

-- ---- asks
numbered_within : (keys : Keys) → IfSome (text_and_number keys) (λ p. p.1 < 2 ^ 32)
numbered_within keys =
    if_then (λ p. p.1 < 2 ^ 32) (λ _. Unit {0}) numbered (two_texts keys) (λ pair _. if_map (λ p. p.1 < 2 ^ 32) (λ n. (pair.0, n)) (u32_named pair.1) (u32_within pair.1))
    (if_all (λ _. Unit {0}) (two_texts keys) (λ _. tt))

feed_within : (keys : Keys) → IfSome (feed_and_text keys) (λ p. p.0 < 2 ^ 8)
feed_within keys =
    if_then (λ p. p.0 < 2 ^ 8) (λ _. Unit {0}) of_feed (two_texts keys) (λ pair _. if_map (λ p. p.0 < 2 ^ 8) (λ n. (n, pair.1)) (u8_named pair.0) (u8_within pair.0))
    (if_all (λ _. Unit {0}) (two_texts keys) (λ _. tt))

keyless_within : (a : Ask) (keys : Keys) → IsAskWithin a → IfSome (without_keys a keys) IsAskWithin
keyless_within a [] h = h
keyless_within a (key ∷ keys) h = tt

-- where any is within
free : {A : Type 0} (f : A → Ask) (o : Option A) → ((x : A) → IsAskWithin (f x)) → IfSome (option_map f o) IsAskWithin
free f o h = if_map IsAskWithin f o (if_all (λ x. IsAskWithin (f x)) o h)

pub ask_within : (n : AskName) (keys : Keys) → IfSome (ask_of n keys) IsAskWithin
ask_within name.Cell keys =
    if_map IsAskWithin ask.Cell (only_path keys) (if_then IsPathWithin (λ _. Unit {0}) path_named (only keys) (λ key _. path_within key) (if_all (λ _. Unit {0}) (only keys) (λ _. tt)))
ask_within name.HeadNow keys = free (λ path. ask.HeadNow path.slot) (only_path keys) (λ _. tt)
ask_within name.HeadBefore keys = free (λ path. ask.HeadBefore path.slot) (only_path keys) (λ _. tt)
ask_within name.Moment keys = keyless_within ask.Moment keys tt
ask_within name.Occurrence keys = keyless_within ask.Occurrence keys tt
ask_within name.EntitiesChanged keys = keyless_within ask.EntitiesChanged keys tt
ask_within name.TripKnown keys = free ask.TripKnown (only keys) (λ _. tt)
ask_within name.RouteKnown keys = free ask.RouteKnown (only keys) (λ _. tt)
ask_within name.AgencyKnown keys = free ask.AgencyKnown (only keys) (λ _. tt)
ask_within name.StopKind keys = free ask.StopKind (only keys) (λ _. tt)
ask_within name.TripRoute keys = free ask.TripRoute (only keys) (λ _. tt)
ask_within name.TripDirection keys = free ask.TripDirection (only keys) (λ _. tt)
ask_within name.TripExact keys = free ask.TripExact (only keys) (λ _. tt)
ask_within name.OnGrid keys = free (λ p. ask.OnGrid p.0 p.1) (two_texts keys) (λ _. tt)
ask_within name.VisitsTwice keys = free ask.VisitsTwice (only keys) (λ _. tt)
ask_within name.FirstArrival keys = free ask.FirstArrival (only keys) (λ _. tt)
ask_within name.StopAt keys = if_map IsAskWithin (λ p. ask.StopAt p.0 p.1) (text_and_number keys) (numbered_within keys)
ask_within name.ArrivalAt keys = if_map IsAskWithin (λ p. ask.ArrivalAt p.0 p.1) (text_and_number keys) (numbered_within keys)
ask_within name.DepartureAt keys = if_map IsAskWithin (λ p. ask.DepartureAt p.0 p.1) (text_and_number keys) (numbered_within keys)
ask_within name.FirstVehicle keys = free (λ p. ask.FirstVehicle p.0 p.1) (kind_and_text keys) (λ _. tt)
ask_within name.HasPair keys = free (λ p. ask.HasPair p.0 p.1 p.2) (kind_and_texts keys) (λ _. tt)
ask_within name.AnyRow keys = free ask.AnyRow (only_kind keys) (λ _. tt)
ask_within name.HasTrip keys = free (λ p. ask.HasTrip p.0 p.1) (kind_and_text keys) (λ _. tt)
ask_within name.HasVehicle keys = free (λ p. ask.HasVehicle p.0 p.1) (kind_and_text keys) (λ _. tt)
ask_within name.FirstId keys = if_map IsAskWithin (λ p. ask.FirstId p.0 p.1) (feed_and_text keys) (feed_within keys)
ask_within name.FirstOccurrence keys = if_map IsAskWithin (λ p. ask.FirstOccurrence p.0 p.1) (feed_and_text keys) (feed_within keys)
ask_within name.Peak keys = if_map IsAskWithin (λ p. ask.Peak p.0 p.1) (feed_and_text keys) (feed_within keys)
