-- The entities that are handed out are in order, and few enough to be counted.
use Rattle.std.specs.Prelude.{◌≡◌, ℕ, zero, suc, ◌+◌, ◌*◌, ◌<◌, ◌≤◌, ◌^◌, Bool, List, [], ◌∷◌, ◌++◌, length, map, Option, Some, None, IfSome, refl}
use Rattle.std.specs.Ordering.{ordering_then}
use Rattle.std.specs.declared.cmp.Ordering.{Ordering}
use Rattle.std.specs.declared.cmp.Ordering.TheVariants.{Less}
use Rattle.std.proofs.Common.{sym, ap, ◌∙◌, subst, arith, eq-eqb, length-append}
use Rattle.std.specs.Cmp.Lexicographic.{slice_cmp}
use Rattle.std.specs.Ordering.{nat_cmp}
use Rattle.rt_wire.specs.Fields.{Spells, WireField}
use Rattle.rt_wire.proofs.Complete.{joins_len, some_of}
use Rattle.feed_values.specs.Schema.{Value}
use Rattle.feed_values.specs.Messages.{entity}
use Rattle.feed_values.specs.Snapshot.{entity_of, entity_payloads}
use Rattle.feed_values.specs.Accepted.{IsAccepted, snapshot_limit}
use Rattle.feed_values.specs.Meaning.{given, in_slot, option_case, payload_in}
use Rattle.feed_values.proofs.SnapshotFields.{snapshot_is_its_fields}
use Rattle.rule_table.specs.declared.key.EntityKey.{EntityKey}
use Rattle.rule_table.specs.Groups.{Each}
use Rattle.rule_table.specs.Order.{key_cmp}
use Rattle.rule_table.specs.Rises.{Rises, Rising}
use Rattle.rule_history.specs.History.{IsTaken, Keyed, Snapshot, below, entities_in, entities_of_snapshot, feed_limit, feed_limit-is, now}
use Rattle.engine_laws.proofs.Ascending.{nat_less}
use Rattle.engine_laws.proofs.Lists.{rises_below}
use Rattle.engine_laws.proofs.Longer.{now-same}
use Rattle.engine_laws.proofs.Proved.{none_is_lost}
use Rattle.engine_laws.proofs.Sorted.{entities_feed, entities_rise}
use Rattle.exchanged_timetables.specs.cached_laws.State.{State, IsState, feed_of, header_at, snapshot_with}
use Rattle.exchanged_timetables.specs.entity_index.Held.{KeyedValues, entities_before, held_at, values_of}
use Rattle.exchanged_timetables.specs.held_feeds.Entities.{entities_held, entities_said}

-- ---- in order
rising_valued : (es : List Keyed) → Rising es → Rising (values_of es)
rising_valued [] h = tt
rising_valued (e ∷ es) h = (each es h.0, rising_valued es h.1)
  where
    each : (ds : List Keyed) → Each (λ d. key_cmp e.0 d.0 ≡ Less) ds → Each (λ d. key_cmp e.0 d.0 ≡ Less) (values_of ds)
    each [] p = tt
    each (d ∷ ds) p = (p.0, each ds p.1)

feeds_valued : (f : ℕ) (es : List Keyed) → Each (λ e. e.0.feed ≡ f) es → Each (λ e. e.0.feed ≡ f) (values_of es)
feeds_valued f [] h = tt
feeds_valued f (e ∷ es) h = (h.0, feeds_valued f es h.1)

less_feed : (x y : EntityKey × Value entity) → x.0.feed < y.0.feed → key_cmp x.0 y.0 ≡ Less
less_feed x y l = ap (λ o. ordering_then o (ordering_then (slice_cmp nat_cmp x.0.id y.0.id) (nat_cmp x.0.occurrence y.0.occurrence))) (nat_less x.0.feed y.0.feed l)

said_rise : (f m : ℕ) (o : Option (List ℕ)) → Rising (entities_said (snapshot_with f m o))
said_rise f m None = tt
said_rise f m (Some b) = rising_valued (entities_in f b) (entities_rise f b)

said_feed : (f m : ℕ) (o : Option (List ℕ)) → Each (λ e. e.0.feed ≡ f) (entities_said (snapshot_with f m o))
said_feed f m None = tt
said_feed f m (Some b) = feeds_valued f (entities_in f b) (entities_feed f b)

pub handed_rise : (state : State) → Rising (entities_held state)
handed_rise state =
    (rises_below (λ (d : EntityKey × Value entity) (e : EntityKey × Value entity). key_cmp d.0 e.0) (λ e. e.0.feed) less_feed (λ f. entities_said (feed_of state f).last)
    (λ f. said_rise f (header_at state.headers f).moment (held_at state.index f).bytes) (λ f. said_feed f (header_at state.headers f).moment (held_at state.index f).bytes) feed_limit).0

-- ---- few
given_len : {A : Type 0} (give : WireField → Option A) (l : List WireField) → length (given give l) ≤ length l
given_len give [] = omega arith
given_len {A} give (f ∷ l) = go (give f) (given_len give l)
  where
    more : (m n : ℕ) → m ≤ n → m ≤ suc n
    more m n h = omega arith

    both : (m n : ℕ) → m ≤ n → suc m ≤ suc n
    both m n h = omega arith

    go : (o : Option A) → length (given give l) ≤ length l → length (option_case o (given give l) (λ x. x ∷ given give l)) ≤ suc (length l)
    go None h = more (length (given give l)) (length l) h
    go (Some x) h = both (length (given give l)) (length l) h

payloads_few : (bytes : List ℕ) → IsAccepted bytes → length (entity_payloads bytes) ≤ 67108864
payloads_few bytes is =
    let fields = is.whole.0 in
    let a : length (entity_payloads bytes) ≤ length fields = subst (λ (ps : List (List ℕ)). length ps ≤ length fields) (sym (snapshot_is_its_fields.payloads fields bytes is.whole.1)) (given_len (in_slot payload_in 2) fields) in
    let b : length fields ≤ length bytes = joins_len (Spells 100) (some_of 100) fields bytes is.whole.1 in
    within (length (entity_payloads bytes)) (length fields) (length bytes) a b is.small
  where
    within : (a b c : ℕ) → a ≤ b → b ≤ c → c ≤ 67108864 → a ≤ 67108864
    within a b c p q r = omega arith

length_valued : (es : List Keyed) → length (values_of es) ≡ length es
length_valued [] = refl
length_valued (e ∷ es) = ap suc (length_valued es)

as_many : (s : Snapshot) → length (entities_in s.feed s.bytes) ≡ length (entity_payloads s.bytes)
as_many s =
    let is : now (s ∷ []) s.feed ≡ Some s = now-same [] s s.feed (eq-eqb s.feed s.feed refl) in
    ap (λ o. length (entities_of_snapshot o)) (sym is) ∙ (none_is_lost (s ∷ []) s.feed s is).as_many

said_few : (f m : ℕ) (o : Option (List ℕ)) → IfSome (snapshot_with f m o) IsTaken → length (entities_said (snapshot_with f m o)) ≤ 67108864
said_few f m None h = omega arith
said_few f m (Some b) h =
    let s : Snapshot = record { feed = f; moment = m; bytes = b } in
    subst (λ n. n ≤ 67108864) (sym (length_valued (entities_in f b) ∙ as_many s)) (payloads_few b h.accepted)

below_few : {A : Type 0} (part : ℕ → List A) → ((f : ℕ) → length (part f) ≤ 67108864) → (n : ℕ) → length (below part n) ≤ 67108864 * n
below_few part each zero = omega arith
below_few part each (suc n) =
    subst (λ m. m ≤ 67108864 * suc n) (sym (length-append (below part n) (part n))) (more (length (below part n)) (length (part n)) n (below_few part each n) (each n))
  where
    more : (a b n : ℕ) → a ≤ 67108864 * n → b ≤ 67108864 → a + b ≤ 67108864 * suc n
    more a b n p q = omega arith

pub handed_few : (state : State) → IsState state → length (entities_held state) < 2 ^ 64
handed_few state is =
    few (length (entities_held state)) feed_limit feed_limit-is
    (below_few (λ f. entities_said (feed_of state f).last) (λ f. said_few f (header_at state.headers f).moment (held_at state.index f).bytes (is.taken f)) feed_limit)
  where
    few : (m n : ℕ) → n ≡ 256 → m ≤ 67108864 * n → m < 2 ^ 64
    few m n e h = omega (arith, e, h)
