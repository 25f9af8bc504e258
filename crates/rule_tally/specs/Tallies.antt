-- What the lines of one rule come to. (This profile.)
use Rattle.std.specs.Prelude.{◌+◌, ℕ, Bool, true, false, not, List, [], ◌∷◌, Option, Some, None, if◌then◌else◌, option_map}
use Rattle.std.specs.List.{count_by, filter_map}
use Rattle.std.specs.Str.{bytes_eq}
use Rattle.rule_tally.specs.Names.{Marks, marks_of, with_mark}
use Rattle.rule_tally.specs.declared.first_line.Behind.{Behind}
use Rattle.rule_tally.specs.declared.first_line.FirstLine.{FirstLine}
use Rattle.rule_tally.specs.declared.telling.Telling.{Telling}
use Rattle.rule_tally.specs.declared.telling.Telling.TheVariants as telling
use Rattle.rule_tally.specs.declared.tally.Tally.{Tally}

-- a line of the rule, with what it tells, and what it stands behind
pub record Told : Type 0 where
  pub telling : Telling
  pub behind : Behind
  pub line : List ℕ

abbrev pub told : Telling → Behind → List ℕ → Told
told telling behind line = record { telling = telling; behind = behind; line = line }

abbrev pub first_line : Behind → List ℕ → FirstLine
first_line behind line = record { behind = behind; line = line }

-- ---- what one line tells
-- that the rule breaks at a place, or came to
abbrev pub finds : Telling → Bool
finds (telling.Finding entity) = true
finds (telling.Opened entity place) = true
finds (telling.Closed place) = false

abbrev pub is_found : Told → Bool
is_found t = finds t.telling

-- that it breaks there no more
abbrev pub is_closed : Told → Bool
is_closed t = not (finds t.telling)

-- the line of a finding or opening, with what it stands behind: of `follow` the snapshot or timetable with which the rule came to break there
abbrev pub found_line : Told → Option FirstLine
found_line t = if is_found t then Some (first_line t.behind t.line) else None

-- the entity of a line of `check`
abbrev pub judged_entity : Telling → Option (List ℕ)
judged_entity (telling.Finding entity) = entity
judged_entity (telling.Opened entity place) = None
judged_entity (telling.Closed place) = None

-- the entity at which a line opens the rule
abbrev pub opened_entity : Telling → Option (List ℕ × Bool)
opened_entity (telling.Finding entity) = None
opened_entity (telling.Opened entity place) = option_map (λ e. (e, true)) entity
opened_entity (telling.Closed place) = None

-- the place that a line opens or closes, and whether the rule stands there then
abbrev pub changed_place : Telling → Option (List ℕ × Bool)
changed_place (telling.Finding entity) = None
changed_place (telling.Opened entity place) = Some (place, true)
changed_place (telling.Closed place) = Some (place, false)

-- ---- stretches of one text
abbrev pub one_if : Bool → ℕ
one_if b = if b then 1 else 0

-- how often a text isn't the one before it
abbrev pub changes : List ℕ → List (List ℕ) → ℕ
changes before [] = 0
changes before (text ∷ texts) = one_if (not (bytes_eq before text)) + changes text texts

-- as many as there are texts, where equal ones stand together
abbrev pub stretches : List (List ℕ) → ℕ
stretches [] = 0
stretches (text ∷ texts) = 1 + changes text texts

abbrev pub last_behind : List ℕ → List (List ℕ) → List ℕ
last_behind before [] = before
last_behind before (text ∷ texts) = last_behind text texts

abbrev pub last_of : List (List ℕ) → Option (List ℕ)
last_of [] = None
last_of (text ∷ texts) = Some (last_behind text texts)

abbrev pub first_of : List FirstLine → Option FirstLine
first_of [] = None
first_of (line ∷ lines) = Some line

-- ---- all lines of a rule, in their order
abbrev pub tally_of : List Told → Tally
tally_of lines = record {
  findings = count_by is_found lines;
  closings = count_by is_closed lines;
  stretches = stretches (filter_map (λ t. judged_entity t.telling) lines);
  last = last_of (filter_map (λ t. judged_entity t.telling) lines);
  entities = marks_of (filter_map (λ t. opened_entity t.telling) lines);
  places = marks_of (filter_map (λ t. changed_place t.telling) lines);
  first = first_of (filter_map found_line lines);
}

-- ---- in the code: one line more
abbrev pub is_last : Option (List ℕ) → List ℕ → Bool
is_last None text = false
is_last (Some last) text = bytes_eq last text

-- an entity of `check` comes behind the last one
abbrev pub met : Tally → List ℕ → Tally
met tally entity = if is_last tally.last entity then tally else record tally { stretches = tally.stretches + 1; last = Some entity }

abbrev pub met_entity : Tally → Option (List ℕ) → Tally
met_entity tally None = tally
met_entity tally (Some entity) = met tally entity

abbrev pub marked_entity : Marks → Option (List ℕ) → Marks
marked_entity marks None = marks
marked_entity marks (Some entity) = with_mark marks entity true

abbrev pub kept : Option FirstLine → Behind → List ℕ → Option FirstLine
kept None behind line = Some (first_line behind line)
kept (Some first) behind line = Some first

abbrev pub with_finding : Tally → Option (List ℕ) → Behind → List ℕ → Tally
with_finding tally entity behind line = record (met_entity tally entity) { findings = tally.findings + 1; first = kept tally.first behind line }

abbrev pub with_opening : Tally → Option (List ℕ) → List ℕ → Behind → List ℕ → Tally
with_opening tally entity place behind line = record tally {
  findings = tally.findings + 1;
  entities = marked_entity tally.entities entity;
  places = with_mark tally.places place true;
  first = kept tally.first behind line;
}

abbrev pub with_closing : Tally → List ℕ → Tally
with_closing tally place = record tally { closings = tally.closings + 1; places = with_mark tally.places place false }

abbrev pub with_line : Tally → Telling → Behind → List ℕ → Tally
with_line tally (telling.Finding entity) behind line = with_finding tally entity behind line
with_line tally (telling.Opened entity place) behind line = with_opening tally entity place behind line
with_line tally (telling.Closed place) behind line = with_closing tally place
