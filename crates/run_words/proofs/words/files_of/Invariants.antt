use Rattle.std.proofs.Common.{◌≡◌, map, string_bytes, take, true}
use Rattle.std.specs.List.{list_all}
use Rattle.feed_list.specs.Values.{is_path}
use Rattle.run_words.proofs.words.files_of.Given as goal

-- the words so far are files
abbrev pub invariant-loop-word : goal.invariant-loop-word
invariant-loop-word l = record {
  files_are : l.files ≡ map string_bytes (take l.word-index l.words);
  all : list_all is_path (map string_bytes (take l.word-index l.words)) ≡ true;
}
