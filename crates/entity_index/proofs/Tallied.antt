-- Ids counted so far, one entity more.
use Rattle.std.specs.Prelude.{◌≡◌, ℕ, ◌+◌, ◌<◌, ◌||◌, Bool, true, false, not, cond, List, [], ◌∷◌, ◌++◌, take, length, get_or, Option, Some, None, IfSome, option_map, bytes_eq, refl}
use mathlib.Core.Bool.{beq}
use Rattle.std.proofs.Common.{◌∙◌, ap, sym, subst, arith}
use Rattle.std.proofs.lemmas.Bool.{false≢true}
use Rattle.std.proofs.lemmas.Slice.Eq.{bytes_eq-Decides}
use Rattle.rule_table.specs.declared.key.EntityKey.{EntityKey}
use Rattle.rule_table.specs.Order.{same_key}
use Rattle.rule_history.specs.History.{id_of, count_id}
use Rattle.engine_laws.proofs.Spots.{is_false, key_is, key_self}
use Rattle.entity_index.specs.declared.incoming.Incoming.{Incoming}
use Rattle.entity_index.specs.Held.{at_key}
use Rattle.entity_index.specs.Put.{AreUnseated, Under, come, put_all, put_one, seat_first, seat_one, seated}
use Rattle.entity_index.specs.Seats.{AreSeated, HeldSeat, IsSeat, Seats}
use Rattle.entity_index.specs.Tally.{IsTally, came_then, first_key, met_at, phase_at}
use Rattle.entity_index.proofs.AtKey.{each_at}
use Rattle.entity_index.proofs.Finding.{AreMet, among, among-last, counted_more, key_here}

-- one id is another
other_key : (f : ℕ) (a b : List ℕ) (n m : ℕ) → bytes_eq a b ≡ false → same_key (record { feed = f; id = a; occurrence = n }) (record { feed = f; id = b; occurrence = m }) ≡ false
other_key f a b n m h = is_false _ (λ e. clash ((bytes_eq-Decides a b).1 (ap (λ (k : EntityKey). k.id) (key_is (record { feed = f; id = a; occurrence = n }) (record { feed = f; id = b; occurrence = m }) e))))
  where
    clash : bytes_eq a b ≡ true → ⊥
    clash e = cc (e, h)

module _ (f : ℕ) (ps : List (List ℕ)) (i : ℕ) (l : i < length ps) where
  abbrev id_here : List ℕ
  id_here = id_of (get_or ps i [])

  abbrev before : ℕ
  before = count_id (take i ps) id_here

  first_is : before ≡ 0 → same_key (key_here f ps i l) (first_key f id_here) ≡ true
  first_is z = ap (λ n. same_key (key_here f ps i l) (let k : EntityKey = record { feed = f; id = id_here; occurrence = n } in k)) (sym z) ∙ key_self (key_here f ps i l)

  pub tally_more : (was is : List ℕ → Option Bool) (m n : List ℕ → ℕ) → ((id : List ℕ) → IsTally (was id) (count_id (take i ps) id) (m id)) →
      IsTally (came_then (was id_here)) (before + 1) (n id_here) → ((other : List ℕ) → bytes_eq id_here other ≡ false → n other ≡ m other) →
      is id_here ≡ came_then (was id_here) → ((other : List ℕ) → bytes_eq id_here other ≡ false → is other ≡ was other) →
      (id : List ℕ) → IsTally (is id) (count_id (take (i + 1) ps) id) (n id)
  tally_more was is m n h here others came same id = subst (λ c. IsTally (is id) c (n id)) (sym (counted_more f ps i l id)) (either (bytes_eq id_here id) refl)
    where
      turned : (a : ℕ) → a + 1 ≡ 1 + a
      turned a = omega arith

      plain : (a : ℕ) → a ≡ 0 + a
      plain a = omega arith

      either : (b : Bool) → bytes_eq id_here id ≡ b → IsTally (is id) (cond (bytes_eq id_here id) 1 0 + count_id (take i ps) id) (n id)
      either true e =
          subst (λ b. IsTally (is id) (cond b 1 0 + count_id (take i ps) id) (n id)) (sym e)
          (subst (λ x. IsTally (is x) (1 + count_id (take i ps) x) (n x)) ((bytes_eq-Decides id_here id).0 e)
          (subst (λ o. IsTally o (1 + before) (n id_here)) (sym came) (subst (λ c. IsTally (came_then (was id_here)) c (n id_here)) (turned before) here)))
      either false e =
          subst (λ b. IsTally (is id) (cond b 1 0 + count_id (take i ps) id) (n id)) (sym e)
          (subst (λ c. IsTally (is id) c (n id)) (plain (count_id (take i ps) id))
          (subst (λ o. IsTally o (count_id (take i ps) id) (n id)) (sym (same id e)) (subst (IsTally (was id) (count_id (take i ps) id)) (sym (others id e)) (h id))))

  -- where what is held is met
  module _ (seats : Seats) (keys : List EntityKey) (met next : List Bool) (were : AreMet seats keys met) (are : AreMet seats (keys ++ key_here f ps i l ∷ []) next) where
    met-is : (ks : List EntityKey) (m : List Bool) → AreMet seats ks m → (k : EntityKey) → met_at m seats k ≡ option_map (λ _. among k ks) (at_key k seats)
    met-is ks m a k = go (at_key k seats) refl
      where
        go : (o : Option HeldSeat) → at_key k seats ≡ o → option_map (λ s. get_or m s.place false) o ≡ option_map (λ _. among k ks) o
        go None e = refl
        go (Some s) e = ap (λ b. Some b) (a.each k s e)

    pub met_same : (other : List ℕ) → bytes_eq id_here other ≡ false → met_at next seats (first_key f other) ≡ met_at met seats (first_key f other)
    met_same other h =
        let k = first_key f other in
        met-is (keys ++ key_here f ps i l ∷ []) next are k
        ∙ ap (λ b. option_map (λ _. b) (at_key k seats)) (among-last k keys (key_here f ps i l) ∙ ap (λ b. among k keys || b) (other_key f id_here other before 0 h) ∙ or_false (among k keys))
        ∙ sym (met-is keys met were k)
      where
        or_false : (b : Bool) → (b || false) ≡ b
        or_false true = refl
        or_false false = refl

    pub met_here : (m : ℕ) → IsTally (met_at met seats (first_key f id_here)) before m → met_at next seats (first_key f id_here) ≡ came_then (met_at met seats (first_key f id_here))
    met_here m = go (at_key (first_key f id_here) seats) refl
      where
        go : (o : Option HeldSeat) → at_key (first_key f id_here) seats ≡ o → IsTally (option_map (λ s. get_or met s.place false) o) before m →
            option_map (λ s. get_or next s.place false) o ≡ came_then (option_map (λ s. get_or met s.place false) o)
        go None e t = refl
        go (Some s) e t =
            ap (λ b. Some b) (are.each (first_key f id_here) s e ∙ among-last (first_key f id_here) keys (key_here f ps i l)
            ∙ ap (λ b. b || same_key (key_here f ps i l) (first_key f id_here)) (sym (were.each (first_key f id_here) s e)) ∙ either (get_or met s.place false) t)
          where
            either : (b : Bool) → IsTally (Some b) before m → (b || same_key (key_here f ps i l) (first_key f id_here)) ≡ true
            either true q = refl
            either false q = first_is q.0

  -- where each is seated
  module _ (phase : Bool) (under next : Under) (put : (k : EntityKey) → next k ≡ seat_one phase (key_here f ps i l, i) under k) where
    pub phase_same : (other : List ℕ) → bytes_eq id_here other ≡ false → phase_at phase (next (first_key f other)) ≡ phase_at phase (under (first_key f other))
    phase_same other h =
        let k = first_key f other in
        ap (phase_at phase) (put k ∙ ap (λ b. cond b (option_map (seated i phase) (under k)) (under k)) (other_key f id_here other before 0 h))

    pub phase_here : (m : ℕ) → IsTally (phase_at phase (under (first_key f id_here))) before m → phase_at phase (next (first_key f id_here)) ≡ came_then (phase_at phase (under (first_key f id_here)))
    phase_here m t = ap (phase_at phase) (put (first_key f id_here)) ∙ go (under (first_key f id_here)) (same_key (key_here f ps i l) (first_key f id_here)) refl t
      where
        itself : (b : Bool) → beq b b ≡ true
        itself true = refl
        itself false = refl

        seen : (b c : Bool) → same_key (key_here f ps i l) (first_key f id_here) ≡ c → c ≡ false → IsTally (Some b) before m → b ≡ true
        seen true c e n q = refl
        seen false c e n q = let s = first_is q.0 in cc

        go : (o : Option HeldSeat) (c : Bool) → same_key (key_here f ps i l) (first_key f id_here) ≡ c → IsTally (phase_at phase o) before m → phase_at phase (cond c (option_map (seated i phase) o) o) ≡ came_then (phase_at phase o)
        go None true e q = refl
        go None false e q = refl
        go (Some s) true e q = ap (λ b. Some b) (itself phase)
        go (Some s) false e q = ap (λ b. Some b) (seen (beq s.phase phase) false e refl q)

-- an entity is seated under its key, after what is under that of the first one of its id was seated if it wasn't yet
module _ (phase : Bool) (first : EntityKey) (place n : ℕ) (zero : first.occurrence ≡ 0) where
  abbrev own : EntityKey
  own = record first { occurrence = n }

  is_first : n ≡ 0 → (k : EntityKey) → same_key own k ≡ same_key first k
  is_first z k = ap (λ m. same_key (let q : EntityKey = record first { occurrence = m } in q) k) (z ∙ sym zero)

  abbrev once : HeldSeat → HeldSeat
  once s = cond (beq s.phase phase) s (seated place phase s)

  seated_once : (o : Option HeldSeat) → option_map (seated place phase) (option_map once o) ≡ option_map (seated place phase) o
  seated_once None = refl
  seated_once (Some s) = either (beq s.phase phase)
    where
      either : (b : Bool) → Some (seated place phase (cond b s (seated place phase s))) ≡ Some (seated place phase s)
      either true = refl
      either false = refl

  pub first_seated : (under : Under) → Some false ≡ phase_at phase (under first) → n ≡ 0 → (k : EntityKey) → seat_first phase (first, place) under k ≡ seat_one phase (record first { occurrence = n }, place) under k
  first_seated under at z k = either (same_key first k) refl ∙ sym (ap (λ b. cond b (option_map (seated place phase) (under k)) (under k)) (is_first z k))
    where
      inside : (b : Bool) → Some false ≡ Some b → b ≡ false
      inside b e = cc

      apart : (o : Option HeldSeat) → Some false ≡ phase_at phase o → option_map once o ≡ option_map (seated place phase) o
      apart None e = refl
      apart (Some s) e = ap (λ b. Some (cond b s (seated place phase s))) (inside (beq s.phase phase) e)

      either : (b : Bool) → same_key first k ≡ b → cond b (option_map once (under k)) (under k) ≡ cond b (option_map (seated place phase) (under k)) (under k)
      either false e = refl
      either true e = apart (under k) (subst (λ q. Some false ≡ phase_at phase (under q)) (key_is first k e) at)

  pub seated_after : (under next : Under) (m : ℕ) → IsTally (phase_at phase (under first)) n m → ((k : EntityKey) → next k ≡ seat_first phase (first, place) under k) →
      (k : EntityKey) → seat_one phase (record first { occurrence = n }, place) next k ≡ seat_one phase (record first { occurrence = n }, place) under k
  seated_after under next m t is k =
      ap (λ o. cond (same_key own k) (option_map (seated place phase) o) o) (is k) ∙ either (same_key own k) (same_key first k) refl refl
    where
      same : (s : HeldSeat) (b : Bool) → IsTally (Some b) n m → (n ≡ 0 → ⊥) → cond b s (seated place phase s) ≡ s
      same s true u never = refl
      same s false u never = absurd (never u.0)

      stays : (o : Option HeldSeat) → IsTally (phase_at phase o) n m → (n ≡ 0 → ⊥) → option_map once o ≡ o
      stays None u never = refl
      stays (Some s) u never = ap (λ x. Some x) (same s (beq s.phase phase) u never)

      either : (a b : Bool) → same_key own k ≡ a → same_key first k ≡ b →
          cond a (option_map (seated place phase) (cond b (option_map once (under k)) (under k))) (cond b (option_map once (under k)) (under k)) ≡ cond a (option_map (seated place phase) (under k)) (under k)
      either true true d e = seated_once (under k)
      either true false d e = refl
      either false false d e = refl
      either false true d e = stays (under k) (subst (λ q. IsTally (phase_at phase (under q)) n m) (key_is first k e) t) (λ z. false≢true (sym d ∙ is_first z k ∙ e))

-- none is seated before
pub put_unseated : (phase other : Bool) → beq other phase ≡ false → (came : List Incoming) (under : Under) → AreUnseated phase under → AreUnseated phase (put_all other came under)
put_unseated phase other n [] under h = h
put_unseated phase other n (c ∷ came) under h = put_unseated phase other n came (put_one other c under) (λ k. either k (same_key c.key k))
  where
    in_place : (o : Option HeldSeat) → IfSome o (λ s. beq s.phase phase ≡ false) → beq (come other c o).phase phase ≡ false
    in_place None p = n
    in_place (Some s) p = p

    either : (k : EntityKey) (b : Bool) → IfSome (cond b (Some (come other c (under k))) (under k)) (λ s. beq s.phase phase ≡ false)
    either k true = in_place (under k) (h k)
    either k false = h k

pub turns : (b : Bool) → beq b (not b) ≡ false
turns true = refl
turns false = refl

pub seats_unseated : (ps : List (List ℕ)) (phase : Bool) (old : Seats) → AreSeated ps phase old → AreUnseated (not phase) (λ k. at_key k old)
seats_unseated ps phase old h k = go (at_key k old) refl
  where
    go : (o : Option HeldSeat) → at_key k old ≡ o → IfSome o (λ s. beq s.phase (not phase) ≡ false)
    go None e = tt
    go (Some s) e = ap (λ b. beq b (not phase)) (each_at (IsSeat ps phase) k old s h e).stays ∙ turns phase

-- at first none came
pub tally_unmet : (seats : Seats) (met : List Bool) → AreMet seats [] met → (k : EntityKey) (n : ℕ) → n ≡ 0 → IsTally (met_at met seats k) 0 n
tally_unmet seats met a k n z = go (at_key k seats) refl
  where
    go : (o : Option HeldSeat) → at_key k seats ≡ o → IsTally (option_map (λ s. get_or met s.place false) o) 0 n
    go None e = z
    go (Some s) e = subst (λ b. IsTally (Some b) 0 n) (sym (a.each k s e)) (refl, z)

pub tally_unseated : (phase : Bool) (o : Option HeldSeat) → IfSome o (λ s. beq s.phase phase ≡ false) → (n : ℕ) → n ≡ 0 → IsTally (phase_at phase o) 0 n
tally_unseated phase None h n z = z
tally_unseated phase (Some s) h n z = subst (λ b. IsTally (Some b) 0 n) (sym h) (refl, z)
