-- Faults that stay, whatever bytes follow.
use Rattle.std.proofs.Common.{◌≡◌, ℕ, zero, suc, ◌+◌, ◌<◌, ◌≤◌, List, [], ◌++◌, length, take, append_assoc, refl, sym, ap, subst, ◌∙◌, arith, inl, inr, ◌⊎◌}
use Rattle.std.specs.List.{AllByRecursion}
use Rattle.std.proofs.lemmas.List.{length-append, take-append-le}
use Rattle.rt_wire.specs.declared.fault.WireReason.{WireReason}
use Rattle.rt_wire.specs.declared.fault.WireReason.TheVariants as wire
use Rattle.rt_wire.specs.declared.fault.WireFault.{WireFault}
use Rattle.rt_wire.specs.declared.tag.WireType.{WireType}
use Rattle.rt_wire.specs.declared.tag.WireType.TheVariants as types
use Rattle.rt_wire.specs.Varint.{NoVarint}
use Rattle.rt_wire.specs.Fields.{Spells}
use Rattle.rt_wire.specs.Placed.{fault_moved}
use Rattle.rt_wire.specs.Faults.{fault_at, NoTag, no_varint, no_number, no_wire_type, NoValue, FieldGoesWrong, at_tag, at_value, in_group, NoFieldNorEnd, bytes_end, another_end, no_field, GroupGoesWrong, GoesWrong, OwnFault, lone_end}
use Rattle.field_pieces.specs.Stays.{Stays, FaultStays}

longer : (b c : List ℕ) → length b ≤ length (b ++ c)
longer b c = omega (arith, length-append b c)

-- the same front, and more behind it
more : (b x y c : List ℕ) → b ≡ x ++ y → b ++ c ≡ x ++ (y ++ c)
more b x y c e = ap (λ (l : List ℕ). l ++ c) e ∙ append_assoc x y c

varint_stays : (b c : List ℕ) (reason : WireReason) → Stays reason → NoVarint b reason → NoVarint (b ++ c) reason
varint_stays b c wire.VarintTooLong s h =
    let long = longer b c in
    let enough = h.0 in
    (omega (arith, long, enough), subst (λ (l : List ℕ). AllByRecursion (λ x. 128 ≤ x) l) (sym (take-append-le 10 b c h.0)) h.1)
varint_stays b c wire.Truncated s h = absurd s
varint_stays b c wire.Overrun s h = absurd s
varint_stays b c wire.BadTag s h = absurd h
varint_stays b c wire.BadWireType s h = absurd h
varint_stays b c wire.LoneEndGroup s h = absurd h
varint_stays b c wire.GroupMismatch s h = absurd h
varint_stays b c wire.TooDeep s h = absurd h

tag_stays : (b c : List ℕ) (reason : WireReason) → Stays reason → NoTag b reason → NoTag (b ++ c) reason
tag_stays b c reason s (no_varint h) = no_varint (varint_stays b c reason s h)
tag_stays b c reason s (no_number tag rest n e v bad why) = no_number tag (rest ++ c) n (more b tag rest c e) v bad why
tag_stays b c reason s (no_wire_type tag rest n e v some small code why) = no_wire_type tag (rest ++ c) n (more b tag rest c e) v some small code why

ends_early : (reason : WireReason) (A : Type 0) → Stays reason → (reason ≡ wire.Truncated) ⊎ (reason ≡ wire.Overrun) → A
ends_early reason A s (inl e) = absurd (rw e at s)
ends_early reason A s (inr e) = absurd (rw e at s)

value_stays : (w : WireType) (b c : List ℕ) (reason : WireReason) → Stays reason → NoValue w b reason → NoValue w (b ++ c) reason
value_stays types.Varint b c reason s h = varint_stays b c reason s h
value_stays types.Fixed64 b c reason s h = ends_early reason _ s (inl h.1)
value_stays types.Fixed32 b c reason s h = ends_early reason _ s (inl h.1)
value_stays types.Len b c reason s (inl h) = inl (varint_stays b c reason s h)
value_stays types.Len b c reason s (inr h) = ends_early reason _ s (inr h.why)
value_stays types.StartGroup b c reason s h = absurd h
value_stays types.EndGroup b c reason s h = absurd h

field_stays : (Group : ℕ → ℕ → List ℕ → WireFault → Type 0) (b c : List ℕ) (f : WireFault) → Stays f.reason
    → ((size number : ℕ) (rest : List ℕ) → Group size number rest f → Group size number (rest ++ c) f)
    → FieldGoesWrong Group b f → FieldGoesWrong Group (b ++ c) f
field_stays Group b c f s go (at_tag h e) = at_tag (tag_stays b c f.reason s h) e
field_stays Group b c f s go (at_value tag rest number wire e t h place) = at_value tag (rest ++ c) number wire (more b tag rest c e) t (value_stays wire rest c f.reason s h) place
field_stays Group b c f s go (in_group tag rest number e t h) = in_group tag (rest ++ c) number (more b tag rest c e) t (go (length tag) number rest h)

abbrev WrongStays : ℕ → Type 0
WrongStays levels = (b c : List ℕ) (f : WireFault) → Stays f.reason → GoesWrong levels b f → GoesWrong levels (b ++ c) f

truncated_here : (f : WireFault) (A : Type 0) → Stays f.reason → f ≡ fault_at 0 wire.Truncated → A
truncated_here f A s e = ends_early f.reason A s (inl (ap (λ (g : WireFault). g.reason) e))

neither_stays : (levels : ℕ) → WrongStays levels → (number : ℕ) (b c : List ℕ) (f : WireFault) → Stays f.reason → NoFieldNorEnd (GoesWrong levels) number b f → NoFieldNorEnd (GoesWrong levels) number (b ++ c) f
neither_stays levels stays number b c f s (bytes_end e place) = truncated_here f _ s place
neither_stays levels stays number b c f s (another_end tag rest other e t differs place) = another_end tag (rest ++ c) other (more b tag rest c e) t differs place
neither_stays levels stays number b c f s (no_field h) = no_field (stays b c f s h)

group_stays : (levels : ℕ) → WrongStays levels → (number : ℕ) (b c : List ℕ) (f : WireFault) → Stays f.reason → GroupGoesWrong (Spells levels) (GoesWrong levels) number b f → GroupGoesWrong (Spells levels) (GoesWrong levels) number (b ++ c) f
group_stays levels stays number b c f s g = record {
  fields = g.fields;
  front = g.front;
  rest = g.rest ++ c;
  whole = more b g.front g.rest c g.whole;
  joins = g.joins;
  first = g.first;
  wrong = neither_stays levels stays number g.rest c g.first (rw g.place at s) g.wrong;
  place = g.place;
}

wrong_stays : (levels : ℕ) → WrongStays levels
unfolding GoesWrong
wrong_stays zero b c f s h = field_stays (λ size number rest g. g ≡ fault_at 0 wire.TooDeep) b c f s (λ size number rest e. e) h
wrong_stays (suc levels) b c f s h =
    field_stays (λ size number rest g. (inner : WireFault) × GroupGoesWrong (Spells levels) (GoesWrong levels) number rest inner × (g ≡ fault_moved size inner)) b c f s
    (λ size number rest g. (g.0, group_stays levels (wrong_stays levels) number rest c g.0 (rw g.2 at s) g.1, g.2)) h

pub fault_stays : FaultStays
fault_stays b c f s (no_field some h) = no_field (omega (arith, some, longer b c)) (wrong_stays 100 b c f s h)
fault_stays b c f s (lone_end tag rest number e t place) = lone_end tag (rest ++ c) number (more b tag rest c e) t place
