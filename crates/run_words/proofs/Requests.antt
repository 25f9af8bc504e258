-- What a request names, and words behind options.
use Rattle.std.proofs.Common.{◌≡◌, ℕ, zero, suc, ◌≤◌, ◌<◌, ◌-◌, nat_lt, nat_le, get_or, ◌∙◌, List, [], ◌∷◌, Bool, true, false, ◌&&◌, length, take, drop, map, String, string_bytes, codes, ap, refl, sym, subst, Some, None, option_map, is_none, if◌then◌else◌, arith}
use Rattle.std.specs.declared.option.Option.{Option}
use Rattle.std.specs.declared.alloc.Global.{Global}
use Rattle.std.specs.Option.{option_and_then}
use Rattle.std.specs.List.{list_all}
use Rattle.std.proofs.lemmas.List.{take_all}
use Rattle.std.proofs.lemmas.Bool.{leb-true}
use Rattle.std.specs.Str.{bytes_eq}
use Rattle.feed_list.specs.Values.{is_path, path_of, number_of}
use Rattle.alert_terms.specs.declared.query.Query.{Query}
use Rattle.run_words.specs.declared.command.Command.{Command}
use Rattle.run_words.specs.declared.command.Command.TheVariants as command
use Rattle.run_words.specs.declared.request.Request.{Request}
use Rattle.run_words.specs.declared.request.Request.TheVariants.{Check, Follow, Predict, Show, Encode, Merge, Trial, Verify, Alerts}
use Rattle.run_words.specs.declared.options.Options.{Options}
use Rattle.run_words.specs.declared.zone_word.ZoneWord.{ZoneWord}
use Rattle.run_words.specs.Words.{alerts_asked, alerts_of, request, no_options, are_files, check_of, file_limit, files_in, follow_of, predict_of, predicted, one_file, asked_of, options_of, file_of, merge_of, trial_of, with_option, NamesFiles}

-- ---- a request names no more files than there are feeds
either_of : (b : Bool) (so other : Option Request) (asked : Request) → (Some asked ≡ so → NamesFiles asked) → (Some asked ≡ other → NamesFiles asked)
    → Some asked ≡ (if b then so else other) → NamesFiles asked
either_of true so other asked one two e = one e
either_of false so other asked one two e = two e

none : (asked : Request) → Some asked ≡ None → NamesFiles asked
none asked e = absurd (cc e)

some_same : (a b : Request) → Some a ≡ Some b → b ≡ a
some_same a b e = cc e

of_same : (a b : Request) → NamesFiles b → Some a ≡ Some b → NamesFiles a
of_same a b has e = subst NamesFiles (some_same a b e) has

after_option : (options : Option Options) (found : Options → Option Request) (asked : Request) → ((more : Options) → Some asked ≡ found more → NamesFiles asked) →
    Some asked ≡ option_and_then found options → NamesFiles asked
after_option None found asked has e = absurd (cc e)
after_option (Some more) found asked has e = has more e

mapped_has : (ask : List ℕ → Request) → ((text : List ℕ) → NamesFiles (ask text)) → (text : Option (List ℕ)) (asked : Request) → Some asked ≡ option_map ask text → NamesFiles asked
mapped_has ask has None asked e = none asked e
mapped_has ask has (Some text) asked e = of_same asked (ask text) (has text) e

-- what holds of both holds of each
left_of : (a b : Bool) → (a && b) ≡ true → a ≡ true
left_of true b e = refl
left_of false b e = absurd (cc e)

right_of : (a b : Bool) → (a && b) ≡ true → b ≡ true
right_of true b e = e
right_of false b e = absurd (cc e)

few_files : (words : List (List ℕ)) → are_files words ≡ true → length words ≤ file_limit
few_files words e = leb-true (length words) file_limit (left_of _ _ (right_of (nat_lt 0 (length words)) _ e))

-- a request on files that are given where a test is true
given_has : (b : Bool) (ask : List (List ℕ) → Request) (words : List (List ℕ)) (asked : Request) → (b ≡ true → NamesFiles (ask words)) →
    Some asked ≡ option_map ask (if b then Some words else None) → NamesFiles asked
given_has true ask words asked has e = of_same asked (ask words) (has refl) e
given_has false ask words asked has e = none asked e

check_has : (options : Options) (files : List (List ℕ)) (asked : Request) → Some asked ≡ check_of options files → NamesFiles asked
check_has options files asked e =
    either_of (is_none options.list && (is_none options.zone && is_none options.query)) (option_map (Check options.folder options.moment) (files_in files)) None asked
    (given_has (are_files files) (Check options.folder options.moment) files asked (few_files files)) (none asked) e

follow_has : (options : Options) (files : List (List ℕ)) (asked : Request) → Some asked ≡ follow_of options files → NamesFiles asked
follow_has options [] asked e = either_of (is_none options.moment && (is_none options.zone && is_none options.query)) (option_map (Follow options.folder) options.list) None asked (mapped_has (Follow options.folder) (λ text. tt) options.list asked) (none asked) e
follow_has options (file ∷ files) asked e = none asked e

predicted_has : (folder : Option (List ℕ)) (zone : Option ZoneWord) (moment : Option ℕ) (file : List ℕ) (asked : Request) → Some asked ≡ predicted folder zone moment file → NamesFiles asked
predicted_has None zone moment file asked e = none asked e
predicted_has (Some folder) None moment file asked e = none asked e
predicted_has (Some folder) (Some zone) moment file asked e = of_same asked (Predict folder zone moment file) tt e

of_file_has : (file : Option (List ℕ)) (folder : Option (List ℕ)) (zone : Option ZoneWord) (moment : Option ℕ) (asked : Request) → Some asked ≡ option_and_then (predicted folder zone moment) file → NamesFiles asked
of_file_has None folder zone moment asked e = none asked e
of_file_has (Some file) folder zone moment asked e = predicted_has folder zone moment file asked e

predict_has : (options : Options) (files : List (List ℕ)) (asked : Request) → Some asked ≡ predict_of options files → NamesFiles asked
predict_has options files asked e =
    either_of (is_none options.list && is_none options.query) (option_and_then (predicted options.folder options.zone options.moment) (one_file files)) None asked
    (of_file_has (one_file files) options.folder options.zone options.moment asked) (none asked) e

-- whose alerts are asked for
alerts_asked_has : (moment : Option ℕ) (who : Option Query) (files : List (List ℕ)) (asked : Request) → length files ≤ file_limit → Some asked ≡ alerts_asked moment who files → NamesFiles asked
alerts_asked_has moment None files asked few e = none asked e
alerts_asked_has moment (Some who) files asked few e = of_same asked (Alerts moment who files) few e

of_files_has : (b : Bool) (moment : Option ℕ) (who : Option Query) (files : List (List ℕ)) (asked : Request) → (b ≡ true → length files ≤ file_limit) →
    Some asked ≡ option_and_then (alerts_asked moment who) (if b then Some files else None) → NamesFiles asked
of_files_has true moment who files asked few e = alerts_asked_has moment who files asked (few refl) e
of_files_has false moment who files asked few e = none asked e

alerts_has : (options : Options) (files : List (List ℕ)) (asked : Request) → Some asked ≡ alerts_of options files → NamesFiles asked
alerts_has options files asked e =
    either_of (is_none options.folder && (is_none options.list && is_none options.zone)) (option_and_then (alerts_asked options.moment options.query) (files_in files)) None asked
    (of_files_has (are_files files) options.moment options.query files asked (few_files files)) (none asked) e

asked_has : (name : Command) (options : Options) (files : List (List ℕ)) (asked : Request) → Some asked ≡ asked_of name options files → NamesFiles asked
asked_has command.Check options files asked e = check_has options files asked e
asked_has command.Follow options files asked e = follow_has options files asked e
asked_has command.Predict options files asked e = predict_has options files asked e
asked_has command.Alerts options files asked e = alerts_has options files asked e

options_has : (name : Command) (options : Options) (words : List (List ℕ)) (asked : Request) → Some asked ≡ options_of name options words → NamesFiles asked
options_has name options [] asked e = asked_has name options [] asked e
options_has name options (word ∷ []) asked e = asked_has name options (word ∷ []) asked e
options_has name options (word ∷ value ∷ words) asked e =
    either_of (is_path word) (asked_of name options (word ∷ value ∷ words)) _ asked (asked_has name options (word ∷ value ∷ words) asked)
    (after_option (with_option options word value) (λ more. options_of name more words) asked (λ more. options_has name more words asked)) e

merge_has : (words : List (List ℕ)) (asked : Request) → Some asked ≡ merge_of words → NamesFiles asked
merge_has words asked e = given_has (are_files words) Merge words asked (few_files words) e

trial_has : (words : List (List ℕ)) (asked : Request) → Some asked ≡ trial_of words → NamesFiles asked
trial_has [] asked e = none asked e
trial_has (word ∷ []) asked e = number_has (number_of word) asked e
  where
    number_has : (number : Option ℕ) (asked : Request) → Some asked ≡ option_map Trial number → NamesFiles asked
    number_has None asked e = none asked e
    number_has (Some seed) asked e = of_same asked (Trial seed) tt e
trial_has (word ∷ more ∷ words) asked e = none asked e

file_has : (ask : List ℕ → Request) → ((file : List ℕ) → NamesFiles (ask file)) → (words : List (List ℕ)) (asked : Request) → Some asked ≡ file_of ask words → NamesFiles asked
file_has ask has words asked e = mapped_has ask has (one_file words) asked e

pub request_names_files : (words : List (List ℕ)) (asked : Request) → Some asked ≡ request words → NamesFiles asked
request_names_files [] asked e = none asked e
request_names_files (name ∷ words) asked e =
    either_of (bytes_eq name (codes "check")) (options_of command.Check no_options words) _ asked (options_has command.Check no_options words asked)
    (either_of (bytes_eq name (codes "follow")) (options_of command.Follow no_options words) _ asked (options_has command.Follow no_options words asked)
    (either_of (bytes_eq name (codes "predict")) (options_of command.Predict no_options words) _ asked (options_has command.Predict no_options words asked)
    (either_of (bytes_eq name (codes "show")) (file_of Show words) _ asked (file_has Show (λ file. tt) words asked)
    (either_of (bytes_eq name (codes "encode")) (file_of Encode words) _ asked (file_has Encode (λ file. tt) words asked)
    (either_of (bytes_eq name (codes "merge")) (merge_of words) _ asked (merge_has words asked)
    (either_of (bytes_eq name (codes "trial")) (trial_of words) _ asked (trial_has words asked)
    (either_of (bytes_eq name (codes "verify")) (file_of Verify words) _ asked (file_has Verify (λ file. tt) words asked)
    (either_of (bytes_eq name (codes "alerts")) (options_of command.Alerts no_options words) None asked (options_has command.Alerts no_options words asked) (none asked))))))))) e

-- ---- words behind options
-- fewer than two words hold no option and its value
pub no_option : (name : Command) (options : Options) (words : List (String Global)) (found : Option Request) → length words < 2 →
    found ≡ asked_of name options (map string_bytes words) → found ≡ options_of name options (map string_bytes words)
no_option name options [] found few e = e
no_option name options (word ∷ []) found few e = e
no_option name options (x ∷ y ∷ words) found few e = absurd (omega arith)

-- a word that may name a file isn't an option
pub no_option_first : (name : Command) (options : Options) (words : List (String Global)) (word : String Global) (found : Option Request) → 2 ≤ length words → word ≡ get_or words 0 word →
    is_path (string_bytes word) ≡ true → found ≡ asked_of name options (map string_bytes words) → found ≡ options_of name options (map string_bytes words)
no_option_first name options [] word found two is path e = absurd (omega arith)
no_option_first name options (x ∷ []) word found two is path e = absurd (omega arith)
no_option_first name options (x ∷ y ∷ words) word found two is path e =
    e ∙ sym (taken (is_path (string_bytes x)) _ _ (ap (λ w. is_path (string_bytes w)) (sym is) ∙ path))
  where
    taken : (b : Bool) (so other : Option Request) → b ≡ true → (if b then so else other) ≡ so
    taken true so other h = refl
    taken false so other h = absurd (cc h)

-- an option and its value before other words
pub next_option : (name : Command) (words : List (String Global)) (word value : String Global) (options : Options) (with : Option Options) (found : Option Request) → 2 ≤ length words →
    word ≡ get_or words 0 word → value ≡ get_or words 1 value → is_path (string_bytes word) ≡ false → with ≡ with_option options (string_bytes word) (string_bytes value) →
    found ≡ option_and_then (λ more. options_of name more (map string_bytes (take (length words - 2) (drop 2 words)))) with → found ≡ options_of name options (map string_bytes words)
next_option name [] word value options with found two w v path is e = absurd (omega arith)
next_option name (x ∷ []) word value options with found two w v path is e = absurd (omega arith)
next_option name (x ∷ y ∷ words) word value options with found two w v path is e =
    e ∙ ap (λ rest. option_and_then (λ more. options_of name more (map string_bytes rest)) with) (take_all (length (x ∷ y ∷ words) - 2) words (omega arith))
    ∙ ap (option_and_then (λ more. options_of name more (map string_bytes words)))
    (is ∙ ap (λ word. with_option options (string_bytes word) (string_bytes value)) w ∙ ap (λ word. with_option options (string_bytes x) (string_bytes word)) v)
    ∙ sym (left (is_path (string_bytes x)) _ _ (ap (λ w. is_path (string_bytes w)) (sym w) ∙ path))
  where
    left : (b : Bool) (so other : Option Request) → b ≡ false → (if b then so else other) ≡ other
    left false so other h = refl
    left true so other h = absurd (cc h)

-- ---- words that are files
-- the first word that is no file
pub no_file_at : (words : List (String Global)) (i : ℕ) (word : String Global) → i < length words → word ≡ get_or words i word → is_path (string_bytes word) ≡ false →
    files_in (map string_bytes words) ≡ None
no_file_at words i word l is not = given (nat_lt 0 (length (map string_bytes words))) (nat_le (length (map string_bytes words)) file_limit) (list_all is_path (map string_bytes words)) (map string_bytes words) (none_at words i word l is not)
  where
    none_at : (words : List (String Global)) (i : ℕ) (word : String Global) → i < length words → word ≡ get_or words i word → is_path (string_bytes word) ≡ false →
        list_all is_path (map string_bytes words) ≡ false
    none_at [] i word l is not = absurd (omega arith)
    none_at (w ∷ words) zero word l is not = rw (ap (λ x. is_path (string_bytes x)) (sym is) ∙ not) refl
    none_at (w ∷ words) (suc i) word l is not = at (is_path (string_bytes w)) (none_at words i word (omega arith) is not)
      where
        at : (b : Bool) → list_all is_path (map string_bytes words) ≡ false → (b && list_all is_path (map string_bytes words)) ≡ false
        at true e = e
        at false e = refl

    given : (a b c : Bool) (words : List (List ℕ)) → c ≡ false → (if a && (b && c) then Some words else None) ≡ None
    given false b c words e = refl
    given true false c words e = refl
    given true true false words e = refl
    given true true true words e = absurd (cc e)

-- a word that gives no path
pub no_path : (words : List (String Global)) (i : ℕ) (word : String Global) (text : List ℕ) (o : Option (List ℕ)) → i < length words → word ≡ get_or words i word → text ≡ string_bytes word →
    o ≡ path_of text → o ≡ None → None ≡ files_in (map string_bytes words)
no_path words i word text o l is same path none = sym (no_file_at words i word l is (ap is_path (sym same) ∙ not (is_path text) (sym none ∙ path)))
  where
    not : (b : Bool) → None ≡ (if b then Some text else None) → b ≡ false
    not false e = refl
    not true e = absurd (cc e)
