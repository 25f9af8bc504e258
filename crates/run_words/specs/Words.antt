-- What the words of a command line ask for. (This profile.)
use Rattle.std.specs.Prelude.{⊤, ◌≡◌, ◌≤◌, ℕ, List, [], ◌∷◌, length, nat_lt, nat_le, Bool, ◌&&◌, if◌then◌else◌, codes, Option, Some, None, is_none, option_map, option_and_then}
use Rattle.std.specs.List.{list_all}
use Rattle.std.specs.Str.{bytes_eq}
use Rattle.feed_list.specs.Values.{is_path, path_of, number_of}
use Rattle.alert_terms.specs.declared.query.Query.{Query}
use Rattle.alert_terms.specs.declared.query.Query.TheVariants as query
use Rattle.run_words.specs.declared.command.Command.{Command}
use Rattle.run_words.specs.declared.command.Command.TheVariants as command
use Rattle.run_words.specs.declared.options.Options.{Options}
use Rattle.run_words.specs.declared.zone_word.ZoneWord.{ZoneWord}
use Rattle.run_words.specs.declared.zone_word.ZoneWord.TheVariants.{Rule, File}
use Rattle.run_words.specs.declared.request.Request.{Request}
use Rattle.run_words.specs.declared.request.Request.TheVariants.{Check, Follow, Predict, Show, Encode, Merge, Trial, Verify, Alerts}

abbrev pub no_options : Options
no_options = record { folder = None; moment = None; list = None; zone = None; query = None }

-- ---- the options with one more; each may be given once
-- a value, unless one was given before
abbrev pub once : {A : Type 0} → Option A → A → Option A
once None value = Some value
once (Some before) value = None

abbrev pub with_folder : Options → List ℕ → Option Options
with_folder options folder = option_map (λ f. record options { folder = Some f }) (once options.folder folder)

abbrev pub with_moment : Options → ℕ → Option Options
with_moment options moment = option_map (λ m. record options { moment = Some m }) (once options.moment moment)

abbrev pub with_list : Options → List ℕ → Option Options
with_list options list = option_map (λ l. record options { list = Some l }) (once options.list list)

abbrev pub with_zone : Options → ZoneWord → Option Options
with_zone options zone = option_map (λ z. record options { zone = Some z }) (once options.zone zone)

abbrev pub with_query : Options → Query → Option Options
with_query options asked = option_map (λ q. record options { query = Some q }) (once options.query asked)

-- an option whose value is the id of whom alerts are asked for
abbrev pub with_id : Options → List ℕ → List ℕ → Option Options
with_id options name id =
    if bytes_eq name (codes "--agency") then with_query options (query.Agency id)
    else (if bytes_eq name (codes "--route") then with_query options (query.Route id)
    else (if bytes_eq name (codes "--trip") then with_query options (query.Trip id)
    else (if bytes_eq name (codes "--stop") then with_query options (query.Stop id) else None)))

-- an option whose value is a text
abbrev pub with_text : Options → List ℕ → List ℕ → Option Options
with_text options name text =
    if bytes_eq name (codes "--timetable") then with_folder options text
    else (if bytes_eq name (codes "--list") then with_list options text
    else (if bytes_eq name (codes "--zone-rule") then with_zone options (Rule text)
    else (if bytes_eq name (codes "--zone-file") then with_zone options (File text) else with_id options name text)))

-- An option and its value: a number behind `--now`, and behind others a text that isn't empty and doesn't begin with a dash.
abbrev pub with_option : Options → List ℕ → List ℕ → Option Options
with_option options name value =
    if bytes_eq name (codes "--now") then option_and_then (with_moment options) (number_of value)
    else option_and_then (with_text options name) (path_of value)

-- ---- the request of a command with these options and the words behind them
-- the file of words that are one file
abbrev pub one_file : List (List ℕ) → Option (List ℕ)
one_file [] = None
one_file (file ∷ []) = path_of file
one_file (file ∷ more ∷ words) = None

-- the most files that `check`, `merge` and `alerts` take, each the snapshot of a feed
abbrev pub file_limit : ℕ
file_limit = 16

-- words that are one file or more, of which none is empty or begins with a dash
abbrev pub are_files : List (List ℕ) → Bool
are_files words = nat_lt 0 (length words) && (nat_le (length words) file_limit && list_all is_path words)

-- the files of words that are files
abbrev pub files_in : List (List ℕ) → Option (List (List ℕ))
files_in words = if are_files words then Some words else None

abbrev pub check_of : Options → List (List ℕ) → Option Request
check_of options files = if is_none options.list && (is_none options.zone && is_none options.query) then option_map (Check options.folder options.moment) (files_in files) else None

abbrev pub follow_asked : Options → Option Request
follow_asked options = if is_none options.moment && (is_none options.zone && is_none options.query) then option_map (Follow options.folder) options.list else None

abbrev pub follow_of : Options → List (List ℕ) → Option Request
follow_of options [] = follow_asked options
follow_of options (file ∷ files) = None

abbrev pub predicted : Option (List ℕ) → Option ZoneWord → Option ℕ → List ℕ → Option Request
predicted folder zone moment file = option_and_then (λ f. option_map (λ z. Predict f z moment file) zone) folder

abbrev pub predict_of : Options → List (List ℕ) → Option Request
predict_of options files = if is_none options.list && is_none options.query then option_and_then (predicted options.folder options.zone options.moment) (one_file files) else None

abbrev pub alerts_asked : Option ℕ → Option Query → List (List ℕ) → Option Request
alerts_asked moment asked files = option_map (λ q. Alerts moment q files) asked

abbrev pub alerts_of : Options → List (List ℕ) → Option Request
alerts_of options files = if is_none options.folder && (is_none options.list && is_none options.zone) then option_and_then (alerts_asked options.moment options.query) (files_in files) else None

abbrev pub asked_of : Command → Options → List (List ℕ) → Option Request
asked_of command.Check options files = check_of options files
asked_of command.Follow options files = follow_of options files
asked_of command.Predict options files = predict_of options files
asked_of command.Alerts options files = alerts_of options files

-- The request of a command and what stands behind some of its options: further options, each before its value, and then the
-- words that are no options.
abbrev pub options_of : Command → Options → List (List ℕ) → Option Request
options_of command options [] = asked_of command options []
options_of command options (word ∷ []) = asked_of command options (word ∷ [])
options_of command options (name ∷ value ∷ words) =
    if is_path name then asked_of command options (name ∷ value ∷ words)
    else option_and_then (λ more. options_of command more words) (with_option options name value)

-- what stands after a command that takes one file
abbrev pub file_of : (List ℕ → Request) → List (List ℕ) → Option Request
file_of ask words = option_map ask (one_file words)

-- what stands after `merge`: files
abbrev pub merge_of : List (List ℕ) → Option Request
merge_of words = option_map Merge (files_in words)

-- what stands after `trial`: one number
abbrev pub trial_of : List (List ℕ) → Option Request
trial_of [] = None
trial_of (word ∷ []) = option_map Trial (number_of word)
trial_of (word ∷ more ∷ words) = None

-- the request of these words, if they give one
abbrev pub request : List (List ℕ) → Option Request
request [] = None
request (name ∷ words) =
    if bytes_eq name (codes "check") then options_of command.Check no_options words
    else (if bytes_eq name (codes "follow") then options_of command.Follow no_options words
    else (if bytes_eq name (codes "predict") then options_of command.Predict no_options words
    else (if bytes_eq name (codes "show") then file_of Show words
    else (if bytes_eq name (codes "encode") then file_of Encode words
    else (if bytes_eq name (codes "merge") then merge_of words
    else (if bytes_eq name (codes "trial") then trial_of words
    else (if bytes_eq name (codes "verify") then file_of Verify words
    else (if bytes_eq name (codes "alerts") then options_of command.Alerts no_options words else None))))))))

-- a request whose feeds can be numbered
abbrev pub NamesFiles : Request → Type 0
NamesFiles (Check folder now files) = length files ≤ file_limit
NamesFiles (Follow folder list) = ⊤
NamesFiles (Predict folder zone now file) = ⊤
NamesFiles (Show file) = ⊤
NamesFiles (Encode file) = ⊤
NamesFiles (Merge files) = length files ≤ file_limit
NamesFiles (Trial seed) = ⊤
NamesFiles (Verify file) = ⊤
NamesFiles (Alerts now query files) = length files ≤ file_limit
