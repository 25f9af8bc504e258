-- What contracts see of a splitter, what is true of every one, and what one walk through new bytes answers. (No standard: how the code
-- holds it.)
use Rattle.std.specs.Prelude.{ℕ, List, ◌≤◌, length, take, IfSome}
use Rattle.rt_wire.specs.Fields.{IsBytes}
use Rattle.rt_wire.specs.Placed.{placed_fields}
use Rattle.field_pieces.specs.SoFar.{IsFrontAt}
use Rattle.feed_values.specs.Accepted.{snapshot_limit}
use Rattle.feed_codec.specs.declared.refusal.Refusal.{Refusal}
use Rattle.feed_codec.specs.FirstFault.{FirstIn, PartWhole, PartWrong}
use Rattle.feed_stream.specs.declared.splitter.Found.{Found}
use Rattle.feed_stream.specs.declared.splitter.Found.TheVariants as found
use Rattle.feed_stream.specs.declared.splitter.Walk.{Walk}
use Rattle.feed_stream.specs.declared.walking.Reached.{Reached}
use Rattle.feed_stream.specs.declared.walking.Through.{Through}
use Rattle.feed_stream.specs.declared.walking.Through.TheVariants as through
use Rattle.feed_stream.specs.Parts.{header_held}
use Rattle.feed_stream.specs.Layouts.{IsLayoutOf}
use Rattle.feed_stream.specs.Settled.{StaysWrong}
use Rattle.feed_stream.specs.Sofar.{Sofar, refused, walked}
use Rattle.feed_stream.specs.Walks.{WalkedTo, EndsEarly}

-- how far bytes were gone through, with the layout of the fields before that place and a front of the group that begins there
pub record IsReached (bytes : List ℕ) (r : Reached) : Type 0 where
  pub walked_to : WalkedTo bytes r.next
  pub layout : IsLayoutOf bytes (placed_fields (take r.next bytes)) r.layout
  pub rest : EndsEarly bytes r.next r.unfinished
  pub front : IfSome r.front (IsFrontAt bytes r.next)

-- a first fault that stays
abbrev pub GoesWrong : List ℕ → Refusal → Type 0
GoesWrong bytes r = (first : FirstIn PartWhole PartWrong bytes r) × StaysWrong first.rest first.first first.wrong

abbrev pub IsThrough : List ℕ → Through → Type 0
IsThrough bytes (through.Stopped r) = IsReached bytes r
IsThrough bytes (through.Refused r) = GoesWrong bytes r

pub record IsWalk (w : Walk) : Type 0 where
  pub bytes_are : IsBytes w.bytes.items
  pub small : length w.bytes.items ≤ snapshot_limit
  pub reached : IsReached w.bytes.items w.reached

abbrev pub IsFound : Found → Type 0
IsFound (found.Refused r n) = Unit {0}
IsFound (found.Walked w) = IsWalk w

abbrev pub sofar : Found → Sofar
sofar (found.Refused r n) = record { count = n; held = refused r }
sofar (found.Walked w) = record {
  count = length w.bytes.items;
  held = walked (record {
    bytes = w.bytes.items;
    next = w.reached.next;
    entities = w.reached.layout.entities.items;
    header = header_held w.bytes.items w.reached.layout.header;
    unfinished = w.reached.unfinished;
  });
}
