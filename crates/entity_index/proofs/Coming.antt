-- What comes in takes the place of what was there.
use Rattle.std.specs.Prelude.{◌≡◌, ℕ, Bool, true, false, cond, List, [], ◌∷◌, map, Option, Some, None, option_map, refl}
use Rattle.std.specs.List.{find}
use Rattle.std.proofs.Common.{◌∙◌, ap, sym}
use Rattle.rule_table.specs.declared.key.EntityKey.{EntityKey}
use Rattle.rule_table.specs.Groups.{Each}
use Rattle.rule_table.specs.Order.{same_key}
use Rattle.rule_table.specs.GroupLaws.{each_weaken}
use Rattle.engine_laws.specs.HeldFeeds.{AreApart}
use Rattle.engine_laws.proofs.Spots.{is_false, key_is, key_other}
use Rattle.entity_index.specs.Held.{at_key}
use Rattle.entity_index.specs.declared.incoming.Incoming.{Incoming}
use Rattle.entity_index.specs.Seats.{HeldSeat}
use Rattle.entity_index.specs.Put.{Under, come, put_one, put_all, seated, seat_one, seat_all}
use Rattle.entity_index.proofs.AtKey.{at_first, at_later, none_at}

-- what came in under its keys
abbrev pub keyed_came : List Incoming → List (EntityKey × Incoming)
keyed_came came = map (λ c. (c.key, c)) came

pub find-keyed : (came : List Incoming) (k : EntityKey) → find (λ c. same_key c.key k) came ≡ at_key k (keyed_came came)
find-keyed [] k = refl
find-keyed (c ∷ came) k = either (same_key c.key k) refl (find-keyed came k)
  where
    either : (b : Bool) → same_key c.key k ≡ b → find (λ d. same_key d.key k) came ≡ at_key k (keyed_came came) → find (λ d. same_key d.key k) (c ∷ came) ≡ at_key k (keyed_came (c ∷ came))
    either true h rest = ap (λ b. cond b (Some c) (find (λ d. same_key d.key k) came)) h ∙ sym (at_first (c.key, c) (keyed_came came) k h)
    either false h rest = ap (λ b. cond b (Some c) (find (λ d. same_key d.key k) came)) h ∙ rest ∙ sym (at_later (c.key, c) (keyed_came came) k h)

pub come_key : (came : List Incoming) (k : EntityKey) (c : Incoming) → at_key k (keyed_came came) ≡ Some c → c.key ≡ k
come_key [] k c h = cc
come_key (d ∷ came) k c h = either (same_key d.key k) refl (come_key came k c)
  where
    inside : (x y : Incoming) → Some x ≡ Some y → x ≡ y
    inside x y s = cc

    either : (b : Bool) → same_key d.key k ≡ b → (at_key k (keyed_came came) ≡ Some c → c.key ≡ k) → c.key ≡ k
    either true m rest = ap (λ x. x.key) (inside c d (sym h ∙ at_first (d.key, d) (keyed_came came) k m)) ∙ key_is d.key k m
    either false m rest = rest (sym (at_later (d.key, d) (keyed_came came) k m) ∙ h)

-- what comes in under a key, if anything, in the place of what was there
abbrev pub put_found : Bool → Option Incoming → Option HeldSeat → Option HeldSeat
put_found phase None o = o
put_found phase (Some c) o = Some (come phase c o)

abbrev pub seat_found : Bool → Option ℕ → Option HeldSeat → Option HeldSeat
seat_found phase None o = o
seat_found phase (Some i) o = option_map (seated i phase) o

pub no_more : {A : Type 0} (k l : EntityKey) (es : List (EntityKey × A)) → same_key k l ≡ true → Each (λ e. same_key k e.0 ≡ false) es → at_key l es ≡ None
no_more k l es m h = none_at es l (each_weaken (λ e. same_key k e.0 ≡ false) (λ e. same_key e.0 l ≡ false) (λ e n. flip e.0 (ap (λ x. same_key x e.0) (sym (key_is k l m)) ∙ n)) es h)
  where
    flip : (q : EntityKey) → same_key l q ≡ false → same_key q l ≡ false
    flip q n = is_false (same_key q l) (λ s. key_other l q n (sym (key_is q l s)))

pub put-found : (phase : Bool) (came : List Incoming) (under : Under) (k : EntityKey) → AreApart (keyed_came came) → put_all phase came under k ≡ put_found phase (at_key k (keyed_came came)) (under k)
put-found phase [] under k h = refl
put-found phase (c ∷ came) under k h = put-found phase came (put_one phase c under) k h.1 ∙ either (same_key c.key k) refl
  where
    either : (b : Bool) → same_key c.key k ≡ b → put_found phase (at_key k (keyed_came came)) (put_one phase c under k) ≡ put_found phase (at_key k (keyed_came (c ∷ came))) (under k)
    either true m =
        ap (λ o. put_found phase o (put_one phase c under k)) (no_more c.key k (keyed_came came) m h.0)
        ∙ ap (λ b. cond b (Some (come phase c (under k))) (under k)) m ∙ sym (ap (λ o. put_found phase o (under k)) (at_first (c.key, c) (keyed_came came) k m))
    either false m =
        ap (λ b. put_found phase (at_key k (keyed_came came)) (cond b (Some (come phase c (under k))) (under k))) m
        ∙ sym (ap (λ o. put_found phase o (under k)) (at_later (c.key, c) (keyed_came came) k m))

pub seat-found : (phase : Bool) (es : List (EntityKey × ℕ)) (under : Under) (k : EntityKey) → AreApart es → seat_all phase es under k ≡ seat_found phase (at_key k es) (under k)
seat-found phase [] under k h = refl
seat-found phase (e ∷ es) under k h = seat-found phase es (seat_one phase e under) k h.1 ∙ either (same_key e.0 k) refl
  where
    either : (b : Bool) → same_key e.0 k ≡ b → seat_found phase (at_key k es) (seat_one phase e under k) ≡ seat_found phase (at_key k (e ∷ es)) (under k)
    either true m =
        ap (λ o. seat_found phase o (seat_one phase e under k)) (no_more e.0 k es m h.0)
        ∙ ap (λ b. cond b (option_map (seated e.1 phase) (under k)) (under k)) m ∙ sym (ap (λ o. seat_found phase o (under k)) (at_first e es k m))
    either false m =
        ap (λ b. seat_found phase (at_key k es) (cond b (option_map (seated e.1 phase) (under k)) (under k))) m
        ∙ sym (ap (λ o. seat_found phase o (under k)) (at_later e es k m))

-- what is under each key decides
pub put-same : (phase : Bool) (came : List Incoming) (f g : Under) → ((k : EntityKey) → f k ≡ g k) → (k : EntityKey) → put_all phase came f k ≡ put_all phase came g k
put-same phase [] f g h k = h k
put-same phase (c ∷ came) f g h k =
    put-same phase came (put_one phase c f) (put_one phase c g) (λ q. ap (λ o. cond (same_key c.key q) (Some (come phase c o)) o) (h q)) k

pub seat-same : (phase : Bool) (es : List (EntityKey × ℕ)) (f g : Under) → ((k : EntityKey) → f k ≡ g k) → (k : EntityKey) → seat_all phase es f k ≡ seat_all phase es g k
seat-same phase [] f g h k = h k
seat-same phase (e ∷ es) f g h k =
    seat-same phase es (seat_one phase e f) (seat_one phase e g) (λ q. ap (λ o. cond (same_key e.0 q) (option_map (seated e.1 phase) o) o) (h q)) k

-- what came in is under its key, and all else is as before
pub came_in : (phase : Bool) (c : Incoming) (old new : List (EntityKey × HeldSeat)) (w : HeldSeat) → w ≡ come phase c (at_key c.key old) → ((k : EntityKey) → at_key k new ≡ cond (same_key c.key k) (Some w) (at_key k old)) →
    (k : EntityKey) → at_key k new ≡ put_one phase c (λ q. at_key q old) k
came_in phase c old new w is put k = put k ∙ either (same_key c.key k) refl
  where
    either : (b : Bool) → same_key c.key k ≡ b → cond b (Some w) (at_key k old) ≡ cond b (Some (come phase c (at_key k old))) (at_key k old)
    either true m = ap (λ x. Some x) (is ∙ ap (λ q. come phase c (at_key q old)) (key_is c.key k m))
    either false m = refl
