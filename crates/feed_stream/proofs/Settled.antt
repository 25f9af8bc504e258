-- A settled refusal stays; and where a front of whole fields is all, or what stands behind it just ends too early, none is settled.
use Rattle.std.proofs.Common.{◌≡◌, ℕ, ◌≤◌, List, [], ◌∷◌, ◌++◌, length, map, append_assoc, append-nil, Option, Some, None, Result, Ok, Err, refl, sym, ap, subst, ◌∙◌, inl, inr, ◌⊎◌}
use Rattle.std.specs.Prelude.{IfSome}
use Rattle.std.specs.List.{AllByRecursion}
use Rattle.rt_wire.specs.declared.fault.WireFault.{WireFault}
use Rattle.rt_wire.specs.Fields.{WireField, WireValue, Varint, Fixed64, Len, Group, Fixed32, IsBytes, Joins, Spells}
use Rattle.rt_wire.specs.Faults.{OwnFault}
use Rattle.rt_wire.specs.Placed.{PlacedField, placed_fields, placed_fields_from, fault_moved, moved}
use Rattle.rt_wire.proofs.Whole.{spelled_is_read, join_is_read, fault_is_exact}
use Rattle.field_pieces.specs.Stays.{Stays}
use Rattle.field_pieces.proofs.StaysLaws as staying
use Rattle.field_pieces.proofs.FrontLaws.{joins_append, joins_one}
use Rattle.feed_values.specs.Meaning.{payload_in}
use Rattle.feed_values.specs.Accepted.{snapshot_limit}
use Rattle.feed_codec.specs.declared.refusal.Refusal.{Refusal}
use Rattle.feed_codec.specs.Refusal.{refusal}
use Rattle.feed_codec.specs.FirstFault.{FrontGoesWrong, no_field, inside, FirstIn, PartWhole, PartWrong, in_field}
use Rattle.feed_codec.proofs.Bytes.{HasBytes, bytes_left, bytes_right, field_bytes}
use Rattle.feed_codec.proofs.SnapshotFaults.{parts_agree, refused_is}
use Rattle.feed_stream.specs.Settled.{StaysWrong, IsSettled, SettledStays}

-- ---- a settled refusal stays

more_wrong : (rest c : List ℕ) (r : Refusal) (w : FrontGoesWrong PartWrong rest r) → StaysWrong rest r w → (v : FrontGoesWrong PartWrong (rest ++ c) r) × StaysWrong (rest ++ c) r v
more_wrong rest c r (no_field f own is) s = (no_field f (staying.fault_stays rest c f s own) is, s)
more_wrong rest c r (inside f spelled more p inner is sp given wrong place) s =
    (inside f spelled (more ++ c) p inner (ap (λ (l : List ℕ). l ++ c) is ∙ append_assoc spelled more c) sp given wrong place, tt)

pub settled_grows : (bytes c : List ℕ) (r : Refusal) → length (bytes ++ c) ≤ snapshot_limit → IsSettled bytes r → IsSettled (bytes ++ c) r
settled_grows bytes c r le h =
    let f = h.first in
    let w = more_wrong f.rest c f.first f.wrong h.stays in
    record {
      within = le;
      first = record {
        fields = f.fields;
        front = f.front;
        rest = f.rest ++ c;
        bytes_are = ap (λ (l : List ℕ). l ++ c) f.bytes_are ∙ append_assoc f.front f.rest c;
        joins = f.joins;
        whole = f.whole;
        first = f.first;
        wrong = w.0;
        place = f.place;
      };
      stays = w.1;
    }

pub settled_refused : (b c : List ℕ) (r : Refusal) → IsBytes (b ++ c) → length (b ++ c) ≤ snapshot_limit → IsSettled b r → refusal (b ++ c) ≡ Some r
settled_refused b c r ok le h = refused_is (b ++ c) r ok (in_field le (settled_grows b c r le h).first)

pub settled_stays : SettledStays
settled_stays = record { refused = settled_refused; settled = settled_grows }

-- ---- what is handed out

fields_in : List (Result PlacedField WireFault) → List WireField
fields_in [] = []
fields_in (Ok p ∷ parts) = p.field ∷ fields_in parts
fields_in (Err f ∷ parts) = []

fault_in : List (Result PlacedField WireFault) → Option WireFault
fault_in [] = None
fault_in (Ok p ∷ parts) = fault_in parts
fault_in (Err f ∷ parts) = Some f

fields_before : (ps : List PlacedField) (tail : List (Result PlacedField WireFault)) → fields_in (map (λ p. Ok p) ps ++ tail) ≡ map (λ p. p.field) ps ++ fields_in tail
unfolding fields_in
fields_before [] tail = refl
fields_before (p ∷ ps) tail = ap (λ (l : List WireField). p.field ∷ l) (fields_before ps tail)

fault_behind : (ps : List PlacedField) (tail : List (Result PlacedField WireFault)) → fault_in (map (λ p. Ok p) ps ++ tail) ≡ fault_in tail
unfolding fault_in
fault_behind [] tail = refl
fault_behind (p ∷ ps) tail = fault_behind ps tail

nothing_read : placed_fields [] ≡ []
unfolding placed_fields placed_fields_from
nothing_read = refl

-- what stands behind whole fields
abbrev behind : ℕ → List ℕ → List (Result PlacedField WireFault)
behind n rest = map (moved n) (placed_fields rest)

fields_join : (l : List WireField) (front rest : List ℕ) → Joins (Spells 100) l front → fields_in (placed_fields (front ++ rest)) ≡ l ++ fields_in (behind (length front) rest)
fields_join l front rest j =
    let h = spelled_is_read l front j in
    ap fields_in (join_is_read l front rest j ∙ ap (λ (t : List (Result PlacedField WireFault)). t ++ behind (length front) rest) h.all)
    ∙ fields_before h.places (behind (length front) rest) ∙ ap (λ (m : List WireField). m ++ fields_in (behind (length front) rest)) h.fields

fault_join : (l : List WireField) (front rest : List ℕ) → Joins (Spells 100) l front → fault_in (placed_fields (front ++ rest)) ≡ fault_in (behind (length front) rest)
fault_join l front rest j =
    let h = spelled_is_read l front j in
    ap fault_in (join_is_read l front rest j ∙ ap (λ (t : List (Result PlacedField WireFault)). t ++ behind (length front) rest) h.all) ∙ fault_behind h.places (behind (length front) rest)

fault_read : (rest : List ℕ) (f : WireFault) → OwnFault rest f → placed_fields rest ≡ Err (fault_moved 0 f) ∷ []
fault_read rest f own = fault_is_exact.answered [] [] rest f refl own ∙ ap (λ (t : List (Result PlacedField WireFault)). t ++ Err (fault_moved 0 f) ∷ []) nothing_read

-- behind a front stands nothing, or what just ends too early
abbrev pub JustEnds : List ℕ → Type 0
JustEnds rest = (rest ≡ []) ⊎ ((f : WireFault) × OwnFault rest f × (Stays f.reason → ⊥))

no_more : (n : ℕ) (rest : List ℕ) → JustEnds rest → fields_in (behind n rest) ≡ []
unfolding fields_in
no_more n rest (inl e) = ap (λ (b : List ℕ). fields_in (behind n b)) e ∙ ap (λ (t : List (Result PlacedField WireFault)). fields_in (map (moved n) t)) nothing_read
no_more n rest (inr h) = ap (λ (t : List (Result PlacedField WireFault)). fields_in (map (moved n) t)) (fault_read rest h.0 h.1)

-- the fault behind a front, if any, doesn't stay
abbrev Passing : Option WireFault → Type 0
Passing None = Unit {0}
Passing (Some f) = Stays f.reason → ⊥

passing : (n : ℕ) (rest : List ℕ) → JustEnds rest → Passing (fault_in (behind n rest))
unfolding fault_in
passing n rest (inl e) = subst (λ (t : List (Result PlacedField WireFault)). Passing (fault_in (map (moved n) t))) (sym (ap placed_fields e ∙ nothing_read)) tt
passing n rest (inr h) = subst (λ (t : List (Result PlacedField WireFault)). Passing (fault_in (map (moved n) t))) (sym (fault_read rest h.0 h.1)) h.2

fault_here : (n : ℕ) (rest : List ℕ) (f : WireFault) → OwnFault rest f → fault_in (behind n rest) ≡ Some (fault_moved n (fault_moved 0 f))
unfolding fault_in
fault_here n rest f own = ap (λ (t : List (Result PlacedField WireFault)). fault_in (map (moved n) t)) (fault_read rest f own)

member : (P : WireField → Type 0) (l : List WireField) (f : WireField) (m : List WireField) → AllByRecursion P (l ++ f ∷ m) → P f
member P [] f m all = all.0
member P (g ∷ l) f m all = member P l f m all.1

-- ---- a part isn't whole and wrong at once

never : (r : Refusal) → None ≡ Some r → ⊥
never r e = cc

apart_value : (number : ℕ) (x : WireValue) (p : List ℕ) (r : Refusal) → payload_in x ≡ Some p → IfSome (payload_in x) IsBytes → PartWhole (record { number = number; value = x }) → PartWrong number p r → ⊥
apart_value number (Len q) p r e ok whole wrong =
    let same : q ≡ p = cc in
    let some : IsBytes p = subst (λ (b : List ℕ). IsBytes b) same ok in
    never r (sym (parts_agree.whole number p some (subst (λ (b : List ℕ). PartWhole (record { number = number; value = Len b })) same whole)) ∙ parts_agree.is number p r some wrong)
apart_value number (Varint n) p r e ok whole wrong = absurd cc
apart_value number (Fixed64 n) p r e ok whole wrong = absurd cc
apart_value number (Group g) p r e ok whole wrong = absurd cc
apart_value number (Fixed32 n) p r e ok whole wrong = absurd cc

apart : (f : WireField) (p : List ℕ) (r : Refusal) → payload_in f.value ≡ Some p → HasBytes f → PartWhole f → PartWrong f.number p r → ⊥
apart f p r e ok whole wrong = apart_value f.number f.value p r e ok whole wrong

-- ---- none is settled

none_by : (l : List WireField) (front rest : List ℕ) → IsBytes (front ++ rest) → Joins (Spells 100) l front → AllByRecursion PartWhole l → JustEnds rest
    → (m : List WireField) (before after : List ℕ) → front ++ rest ≡ before ++ after → Joins (Spells 100) m before → (r : Refusal) (w : FrontGoesWrong PartWrong after r) → StaysWrong after r w → ⊥
none_by l front rest ok j whole early m before after same k r (no_field f own is) s =
    let mine : fault_in (placed_fields (front ++ rest)) ≡ fault_in (behind (length front) rest) = fault_join l front rest j in
    let theirs : fault_in (placed_fields (before ++ after)) ≡ Some (fault_moved (length before) (fault_moved 0 f)) = fault_join m before after k ∙ fault_here (length before) after f own in
    subst Passing (sym mine ∙ ap (λ (b : List ℕ). fault_in (placed_fields b)) same ∙ theirs) (passing (length front) rest early) s
none_by l front rest ok j whole early m before after same k r (inside f spelled more p inner is sp given wrong place) s =
    let mine : fields_in (placed_fields (front ++ rest)) ≡ l = fields_join l front rest j ∙ ap (λ (t : List WireField). l ++ t) (no_more (length front) rest early) ∙ append-nil l in
    let apart_at : before ++ after ≡ (before ++ spelled) ++ more = ap (λ (t : List ℕ). before ++ t) is ∙ sym (append_assoc before spelled more) in
    let joined = joins_append (Spells 100) m (f ∷ []) before spelled k (joins_one (Spells 100) f spelled sp) in
    let tail = fields_in (behind (length (before ++ spelled)) more) in
    let theirs : l ≡ m ++ f ∷ tail = sym mine ∙ ap (λ (b : List ℕ). fields_in (placed_fields b)) (same ∙ apart_at) ∙ fields_join (m ++ f ∷ []) (before ++ spelled) more joined ∙ append_assoc m (f ∷ []) tail in
    let all : IsBytes ((before ++ spelled) ++ more) = subst (λ (b : List ℕ). IsBytes b) (same ∙ apart_at) ok in
    let bytes = field_bytes f spelled sp (bytes_right before spelled (bytes_left (before ++ spelled) more all)) in
    apart f p inner given bytes (member PartWhole m f tail (subst (AllByRecursion PartWhole) theirs whole)) wrong

pub none_settled : (l : List WireField) (front rest : List ℕ) → IsBytes (front ++ rest) → Joins (Spells 100) l front → AllByRecursion PartWhole l → JustEnds rest
    → (r : Refusal) (first : FirstIn PartWhole PartWrong (front ++ rest) r) → StaysWrong first.rest first.first first.wrong → ⊥
none_settled l front rest ok j whole early r first s = none_by l front rest ok j whole early first.fields first.front first.rest first.bytes_are first.joins first.first first.wrong s
