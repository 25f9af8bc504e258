use Rattle.run_words.proofs.Requests.{no_path}
use Rattle.run_words.proofs.words.files_of.Goals as goal

pub returns-in_default : goal.returns-in_default
returns-in_default c =
    no_path c.args.words.now c.loop-word.word-index c.word-item.result c.as_str.result.now c.in_ok-file.field-0 c.loop-word-test.true c.word-item.is c.as_str.ensures.value c.in_ok-file.ensures c.in_default.is
