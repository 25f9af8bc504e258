-- Text that is held back until it fills a piece.
use Rattle.std.specs.Prelude.{◌≡◌, ◌++◌, ℕ, List, Option}
use Rattle.std.specs.Io.KnownBytes.{append_known}

-- a front of a text was written, and its rest is held back
pub record SendsText (before after : Option (List ℕ)) (text rest : List ℕ) : Type 0 where
  pub sent : List ℕ
  pub written : after ≡ append_known before sent
  pub text_is : sent ++ rest ≡ text
