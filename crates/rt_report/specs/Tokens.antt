-- What a writer of JSON was given.
use Rattle.std.specs.Prelude.{◌≡◌, ℕ, List, ◌++◌, codes, flat_map}
use Rattle.json.specs.Token.{Token}
use Rattle.json.specs.Tree.{json_tokens}
use Rattle.json.specs.Written.{Written}
use Rattle.serde_json.specs.Data.{Data, string, object, member, no_members}
use Rattle.serde_json.specs.Written.{outline}
use Rattle.rule_table.specs.declared.fact.Fact.{Fact}
use Rattle.snapshot_lines.specs.Lines.{count}
use Rattle.rt_report.specs.Findings.{fact_data}

-- tokens were appended, behind the text that stood there before
pub record Adds (old new : Written) (tokens : List Token) : Type 0 where
  pub before_is : new.before ≡ old.before
  pub tokens_are : new.tokens ≡ old.tokens ++ tokens

-- the tokens of a value
abbrev pub tokens_of : Data → List Token
tokens_of d = json_tokens (outline d)

-- the tokens of facts, one after the other
abbrev pub fact_tokens : List Fact → List Token
fact_tokens facts = flat_map (λ fact. tokens_of (fact_data fact)) facts

-- the keys of a finding on a header, which has no id and no occurrence
abbrev pub head_finding : Data → ℕ → List ℕ → List ℕ → List ℕ → List ℕ → ℕ → Data
head_finding facts feed weight name path rule since = object
    (member (codes "facts") facts
    (member (codes "feed") (count feed)
    (member (codes "level") (string weight)
    (member (codes "line") (string name)
    (member (codes "path") (string path)
    (member (codes "rule") (string rule)
    (member (codes "since") (count since) no_members)))))))
