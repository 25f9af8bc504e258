-- A text's tree, its parts, and what they say.
use Rattle.std.proofs.Common.{◌≡◌, ℕ, ◌≤◌, max, List, [], ◌∷◌, Option, Some, None, Bool, true, false, refl, sym, ap, ◌∙◌, arith, append-nil, true≢false, codes}
use Rattle.std.specs.Prelude.{◌≢◌, IfErr, IfOk, is_ok, option_and_then, is_some, Result, Ok, Err, if◌then◌else◌}
use Rattle.std.specs.Option.{option_map}
use Rattle.std.specs.Str.{IsUtf8, is_utf8}
use Rattle.std.proofs.lemmas.Str.{IsUtf8-from_is_utf8, is_utf8-from_IsUtf8}
use Rattle.json.specs.Token.{Token}
use Rattle.json.specs.Lex.{tokens}
use Rattle.json.specs.Json as json
use Rattle.json.specs.Tree.{depth, items_depth, members_depth, json_tokens, HasNumbers, ItemsHaveNumbers, MembersHaveNumbers}
use Rattle.json.proofs.Printed.Trees.{value-json_tokens}
use Rattle.json.proofs.Unique.Spelling.{tokens-document}
use Rattle.serde_json.specs.Data.{Data, object, Items, Members, no_members}
use Rattle.serde_json.specs.Find.{get_member}
use Rattle.serde_json.specs.Read.{read, of_json, of_items, of_members, max_depth}
use Rattle.feed_values.specs.Schema.{Value}
use Rattle.feed_values.specs.Messages.{feed_message, feed_header, entity}
use Rattle.feed_json.specs.declared.json_fault.JsonFault.{JsonFault}
use Rattle.feed_json.specs.declared.json_fault.JsonFault.TheVariants.{UnknownKey, Memory}
use Rattle.json_entities.specs.declared.text_fault.TextFault.{TextFault}
use Rattle.json_entities.specs.declared.text_fault.TextFault.TheVariants.{NotJson, Message}
use Rattle.feed_json.specs.Faults.{unless, paired}
use Rattle.json_entities.specs.FromText.{answered, said_by, text_message}
use Rattle.json_entities.specs.Parts.{Entities, json_message, message_with, emptied, entity_values, is_entity, last_said, last_of}
use Rattle.feed_json.specs.Unform.{first_unknown, is_key, needed_at, array_at, unknown_of, unform}
use Rattle.json_entities.proofs.Emptied.{Alike, IsReadAs, said_at, say, get_alike, unknown_alike, members_read}

none_some : {A : Type 0} {x : A} → None ≡ Some x → ⊥
none_some h = true≢false (sym (ap is_some h))

some_is : {A : Type 0} {x y : A} → Some x ≡ Some y → x ≡ y
some_is h = cc

pub whole_read : (text : List ℕ) (j : json.Json) (r : List Token) → json.value max_depth (tokens text) ≡ Some (j, r) → r ≡ [] → read text ≡ of_json j
whole_read text j r is over = ap (λ o. option_and_then of_json (option_and_then (λ p. json.if_last p.0 p.1) o)) (is ∙ ap (λ x. Some (j, x)) over)

pub more_behind : (text : List ℕ) (j : json.Json) (r more : List Token) (t : Token) → json.value max_depth (tokens text) ≡ Some (j, r) → r ≡ t ∷ more → read text ≡ None
more_behind text j r more t is behind = ap (λ o. option_and_then of_json (option_and_then (λ p. json.if_last p.0 p.1) o)) (is ∙ ap (λ x. Some (j, x)) behind)

pub refused : (text : List ℕ) → json.value max_depth (tokens text) ≡ None → read text ≡ None
refused text is = ap (λ o. option_and_then of_json (option_and_then (λ p. json.if_last p.0 p.1) o)) is

-- the text of a value is read as what the value is
pub part_read : (text : List ℕ) (j : json.Json) → json.document text ≡ Some j → depth j ≤ max_depth → read text ≡ of_json j
part_read text j is shallow =
    whole_read text j [] (ap (json.value max_depth) (tokens-document text j is ∙ sym (append-nil (json_tokens j))) ∙ value-json_tokens j max_depth [] shallow) refl

-- ---- an object's parts
others_kept : (b : Bool) (j : json.Json) → HasNumbers j → HasNumbers (if b then json.null else j)
others_kept true j h = tt
others_kept false j h = h

pub numbers_of_others : (ms : json.Members) → MembersHaveNumbers ms → MembersHaveNumbers (emptied ms)
numbers_of_others json.no_members h = tt
numbers_of_others (json.member k j ms) h = (others_kept (is_entity k) j h.0, numbers_of_others ms h.1)

values_kept : (b : Bool) (j : json.Json) (js : json.Items) → HasNumbers j → ItemsHaveNumbers js → ItemsHaveNumbers (if b then json.item j js else js)
values_kept true j js h g = (h, g)
values_kept false j js h g = g

pub numbers_of_values : (ms : json.Members) → MembersHaveNumbers ms → ItemsHaveNumbers (entity_values ms)
numbers_of_values json.no_members h = tt
numbers_of_values (json.member k j ms) h = values_kept (is_entity k) j (entity_values ms) h.0 (numbers_of_values ms h.1)

others_nest : (b : Bool) (j : json.Json) (n m : ℕ) → n ≤ m → max (depth (if b then json.null else j)) n ≤ max (depth j) m
others_nest true j n m l = omega (arith, l)
others_nest false j n m l = omega (arith, l)

pub depth_of_others : (ms : json.Members) → members_depth (emptied ms) ≤ members_depth ms
depth_of_others json.no_members = omega arith
depth_of_others (json.member k j ms) = others_nest (is_entity k) j (members_depth (emptied ms)) (members_depth ms) (depth_of_others ms)

values_nest : (b : Bool) (j : json.Json) (js : json.Items) (m : ℕ) → items_depth js ≤ m → items_depth (if b then json.item j js else js) ≤ max (depth j) m
values_nest true j js m l = omega (arith, l)
values_nest false j js m l = omega (arith, l)

pub depth_of_values : (ms : json.Members) → items_depth (entity_values ms) ≤ members_depth ms
depth_of_values json.no_members = omega arith
depth_of_values (json.member k j ms) = values_nest (is_entity k) j (entity_values ms) (members_depth ms) (depth_of_values ms)

-- ---- what an object says
abbrev shape : Option (List ℕ) → Option Data → Entities → Option Data → Result (Value feed_message) TextFault
shape key header entities unknown = answered (unless (option_map UnknownKey key) (paired (needed_at (codes "header") (unform feed_header) header) (paired entities (array_at (codes "unknown") (unknown_of feed_message) unknown))))

-- an object without what stands at the key of entities, and what is said there, say what the object says
alike_said : (ms ns : Members) (said : Entities) → Alike ms ns → said_at ms ≡ said → answered (unform feed_message (object ms)) ≡ answered (message_with said (object ns))
alike_said ms ns said alike is =
    ap (λ key. shape key (get_member (codes "header") ms) (said_at ms) (get_member (codes "unknown") ms)) (unknown_alike (is_key feed_message) ms ns alike)
    ∙ ap (λ header. shape (first_unknown (is_key feed_message) ns) header (said_at ms) (get_member (codes "unknown") ms)) (get_alike (codes "header") ms ns refl alike)
    ∙ ap (λ entities. shape (first_unknown (is_key feed_message) ns) (get_member (codes "header") ns) entities (get_member (codes "unknown") ms)) is
    ∙ ap (λ unknown. shape (first_unknown (is_key feed_message) ns) (get_member (codes "header") ns) said unknown) (get_alike (codes "unknown") ms ns refl alike)

read_said : (values : Option Items) (others all : Option Members) (last : Entities) (d : Data) → IsReadAs values others all (Ok []) → option_map (last_said say (Ok [])) values ≡ Some last → option_map object others ≡ Some d
    → said_by (option_map object all) ≡ answered (message_with last d)
read_said None others all last d h v o = absurd (none_some v)
read_said (Some ds) None all last d h v o = absurd (none_some o)
read_said (Some ds) (Some ns) None last d h v o = absurd h
read_said (Some ds) (Some ns) (Some ms) last d h v o =
    alike_said ms ns (last_said say (Ok []) ds) h.0 h.1
    ∙ ap (λ x. answered (message_with x (object ns))) (some_is v) ∙ ap (λ x. answered (message_with last x)) (some_is o)

module _ (ms : json.Members) where
  parts : IsReadAs (of_items (entity_values ms)) (of_members (emptied ms) no_members) (of_members ms no_members) (Ok [])
  parts = members_read ms no_members no_members tt

  -- what an object says, by its parts
  pub object_said : (last : Entities) (d : Data) → last_of (codes "entity") entity (entity_values ms) ≡ Some last → of_json (json.object (emptied ms)) ≡ Some d → json_message (json.object ms) ≡ answered (message_with last d)
  object_said last d = read_said (of_items (entity_values ms)) (of_members (emptied ms) no_members) (of_members ms no_members) last d parts

  values_missing : (values : Option Items) (others all : Option Members) → IsReadAs values others all (Ok []) → values ≡ None → all ≡ None
  values_missing None others all h is = h
  values_missing (Some ds) others all h is = absurd (none_some (sym is))

  others_missing : (values : Option Items) (others all : Option Members) → IsReadAs values others all (Ok []) → option_map object others ≡ None → all ≡ None
  others_missing None others all h is = h
  others_missing (Some ds) None all h is = h
  others_missing (Some ds) (Some ns) all h is = absurd (none_some (sym is))

  -- a text is no JSON where a part of it isn't
  pub values_refused : of_items (entity_values ms) ≡ None → json_message (json.object ms) ≡ Err NotJson
  values_refused is = ap (λ o. said_by (option_map object o)) (values_missing (of_items (entity_values ms)) (of_members (emptied ms) no_members) (of_members ms no_members) parts is)

  pub others_refused : of_json (json.object (emptied ms)) ≡ None → json_message (json.object ms) ≡ Err NotJson
  others_refused is = ap (λ o. said_by (option_map object o)) (others_missing (of_items (entity_values ms)) (of_members (emptied ms) no_members) (of_members ms no_members) parts is)

-- a fault of a tree that is handed on as one of its text
pub fault_handed_on : {T : Type 0} (r : Result T TextFault) (told : TextFault) (came : JsonFault) (said : Result (Value feed_message) TextFault) (read : Result (Value feed_message) JsonFault) → r ≡ Err told → told ≡ Message came → said ≡ answered read
    → (came ≢ Memory → read ≡ Err came) → IfErr r (λ e. e ≢ Message Memory → said ≡ Err e)
fault_handed_on (Ok v) told came said read now same is fault = tt
fault_handed_on (Err e) told came said read now same is fault = λ other.
    let eq : e ≡ Message came = cc in
    is ∙ ap answered (fault (λ m. other (eq ∙ ap Message m))) ∙ ap Err (sym eq)

-- ---- a whole text
refused_text : (bytes : List ℕ) (b : Bool) → is_utf8 bytes ≡ b → ¬ (IsUtf8 bytes) → is_utf8 bytes ≡ false
refused_text bytes true is not = absurd (not (IsUtf8-from_is_utf8 bytes is))
refused_text bytes false is not = is

pub no_text : (bytes : List ℕ) → ¬ (IsUtf8 bytes) → text_message bytes ≡ Err NotJson
no_text bytes not = ap (λ b. said_by (if b then read bytes else None)) (refused_text bytes (is_utf8 bytes) refl not)

pub no_json : (bytes : List ℕ) → read bytes ≡ None → text_message bytes ≡ Err NotJson
no_json bytes is = at (is_utf8 bytes)
  where
    at : (b : Bool) → said_by (if b then read bytes else None) ≡ Err NotJson
    at true = ap said_by is
    at false = refl

-- what a text says is what its value says
pub text_is : (bytes : List ℕ) (j : json.Json) → IsUtf8 bytes → read bytes ≡ of_json j → text_message bytes ≡ json_message j
text_is bytes j valid same = ap (λ b. said_by (if b then read bytes else None)) (is_utf8-from_IsUtf8 bytes valid) ∙ ap said_by same

not_both : {T E : Type 0} {v : T} {e : E} → (let r : Result T E = Ok v in r) ≡ Err e → ⊥
not_both h = true≢false (ap is_ok h)

-- a fault holds nothing
pub no_ok : {T E : Type 0} (P : T → Type 0) (r : Result T E) (e : E) → r ≡ Err e → IfOk r P
no_ok P (Ok v) e is = absurd (not_both is)
no_ok P (Err f) e is = tt
