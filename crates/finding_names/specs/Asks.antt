-- Asks by their names and their keys as texts. (This profile.)
use Rattle.std.specs.Prelude.{ℕ, List, [], ◌∷◌, Option, Some, None, option_map, option_and_then}
use Rattle.feed_values.specs.declared.path.Path.{Path}
use Rattle.rule_table.specs.declared.ask.Ask.{Ask}
use Rattle.rule_table.specs.declared.ask.Ask.TheVariants as ask
use Rattle.rule_table.specs.declared.kind.Kind.{Kind}
use Rattle.finding_names.specs.declared.ask_name.AskName.{AskName}
use Rattle.finding_names.specs.declared.ask_name.AskName.TheVariants as name
use Rattle.finding_names.specs.Names.{kind_named}
use Rattle.finding_names.specs.Numbers.{u8_named, u32_named}
use Rattle.finding_names.specs.Paths.{path_named}

abbrev pub Keys : Type 0
Keys = List (List ℕ)

-- ---- the shapes of keys
abbrev pub without_keys : Ask → Keys → Option Ask
without_keys a [] = Some a
without_keys a _ = None

abbrev pub only : Keys → Option (List ℕ)
only (key ∷ []) = Some key
only _ = None

abbrev pub only_path : Keys → Option Path
only_path keys = option_and_then path_named (only keys)

abbrev pub only_kind : Keys → Option Kind
only_kind keys = option_and_then kind_named (only keys)

abbrev pub two_texts : Keys → Option (List ℕ × List ℕ)
two_texts (first ∷ second ∷ []) = Some (first, second)
two_texts _ = None

-- a text, and behind it a number in decimal
abbrev pub numbered : List ℕ × List ℕ → Option (List ℕ × ℕ)
numbered pair = option_map (λ n. (pair.0, n)) (u32_named pair.1)

abbrev pub text_and_number : Keys → Option (List ℕ × ℕ)
text_and_number keys = option_and_then numbered (two_texts keys)

-- a kind, and behind it a text
abbrev pub of_kind : List ℕ × List ℕ → Option (Kind × List ℕ)
of_kind pair = option_map (λ k. (k, pair.1)) (kind_named pair.0)

abbrev pub kind_and_text : Keys → Option (Kind × List ℕ)
kind_and_text keys = option_and_then of_kind (two_texts keys)

-- a feed, and behind it a text
abbrev pub of_feed : List ℕ × List ℕ → Option (ℕ × List ℕ)
of_feed pair = option_map (λ n. (n, pair.1)) (u8_named pair.0)

abbrev pub feed_and_text : Keys → Option (ℕ × List ℕ)
feed_and_text keys = option_and_then of_feed (two_texts keys)

-- a kind, and behind it two texts
abbrev pub kind_and_texts : Keys → Option (Kind × List ℕ × List ℕ)
kind_and_texts (kind ∷ first ∷ second ∷ []) = option_map (λ k. (k, first, second)) (kind_named kind)
kind_and_texts _ = None

-- ---- the ask of a name with keys
abbrev pub ask_of : AskName → Keys → Option Ask
ask_of name.Cell keys = option_map ask.Cell (only_path keys)
ask_of name.HeadNow keys = option_map (λ path. ask.HeadNow path.slot) (only_path keys)
ask_of name.HeadBefore keys = option_map (λ path. ask.HeadBefore path.slot) (only_path keys)
ask_of name.Moment keys = without_keys ask.Moment keys
ask_of name.Occurrence keys = without_keys ask.Occurrence keys
ask_of name.EntitiesChanged keys = without_keys ask.EntitiesChanged keys
ask_of name.TripKnown keys = option_map ask.TripKnown (only keys)
ask_of name.RouteKnown keys = option_map ask.RouteKnown (only keys)
ask_of name.AgencyKnown keys = option_map ask.AgencyKnown (only keys)
ask_of name.StopKind keys = option_map ask.StopKind (only keys)
ask_of name.TripRoute keys = option_map ask.TripRoute (only keys)
ask_of name.TripDirection keys = option_map ask.TripDirection (only keys)
ask_of name.TripExact keys = option_map ask.TripExact (only keys)
ask_of name.OnGrid keys = option_map (λ p. ask.OnGrid p.0 p.1) (two_texts keys)
ask_of name.VisitsTwice keys = option_map ask.VisitsTwice (only keys)
ask_of name.FirstArrival keys = option_map ask.FirstArrival (only keys)
ask_of name.StopAt keys = option_map (λ p. ask.StopAt p.0 p.1) (text_and_number keys)
ask_of name.ArrivalAt keys = option_map (λ p. ask.ArrivalAt p.0 p.1) (text_and_number keys)
ask_of name.DepartureAt keys = option_map (λ p. ask.DepartureAt p.0 p.1) (text_and_number keys)
ask_of name.FirstVehicle keys = option_map (λ p. ask.FirstVehicle p.0 p.1) (kind_and_text keys)
ask_of name.HasPair keys = option_map (λ p. ask.HasPair p.0 p.1 p.2) (kind_and_texts keys)
ask_of name.AnyRow keys = option_map ask.AnyRow (only_kind keys)
ask_of name.HasTrip keys = option_map (λ p. ask.HasTrip p.0 p.1) (kind_and_text keys)
ask_of name.HasVehicle keys = option_map (λ p. ask.HasVehicle p.0 p.1) (kind_and_text keys)
ask_of name.FirstId keys = option_map (λ p. ask.FirstId p.0 p.1) (feed_and_text keys)
ask_of name.FirstOccurrence keys = option_map (λ p. ask.FirstOccurrence p.0 p.1) (feed_and_text keys)
ask_of name.Peak keys = option_map (λ p. ask.Peak p.0 p.1) (feed_and_text keys)
