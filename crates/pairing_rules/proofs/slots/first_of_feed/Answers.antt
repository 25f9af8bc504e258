use Rattle.std.proofs.Common.{◌==◌, ◌&&◌, cond, Some, None, sym, ◌∙◌, ap}
use Rattle.std.specs.Prelude.{option_map}
use Rattle.std.specs.List.{find}
use Rattle.std.specs.Ordering.{is_le}
use Rattle.pairing_rules.specs.Slots.{seen, entry_cmp, at_place}
use Rattle.pairing_rules.proofs.Lists.{cut}
use Rattle.pairing_rules.proofs.Places.{front-feed}
use Rattle.pairing_rules.proofs.slots.first_of_feed.Goals as goal

pub returns-then-is_of_feed : goal.returns-then-is_of_feed
returns-then-is_of_feed c =
    let found = sym (c.in-Some.ensures.first ∙ ap (λ one. find (λ e. is_le (entry_cmp one e)) c.args.entries.now.keys) c.low-low.ensures) in
    ap (option_map seen) (sym (ap (cut (λ e. at_place c.args.number c.args.kind e && e.feed == c.args.feed)) found ∙ ap (λ b. cond b (Some c.in-Some.entry.now) None) (sym c.is_of_feed.ensures ∙ c.if-is_of_feed.true)))
    ∙ front-feed c.args.number c.args.kind c.args.feed c.args.entries.now.keys c.in-Some.ensures.ordered

pub returns-in-Some : goal.returns-in-Some
returns-in-Some c =
    let found = sym (c.in-Some.ensures.first ∙ ap (λ one. find (λ e. is_le (entry_cmp one e)) c.args.entries.now.keys) c.low-low.ensures) in
    ap (option_map seen) (sym (ap (cut (λ e. at_place c.args.number c.args.kind e && e.feed == c.args.feed)) found ∙ ap (λ b. cond b (Some c.in-Some.entry.now) None) (sym c.is_of_feed.ensures ∙ c.if-is_of_feed.false)))
    ∙ front-feed c.args.number c.args.kind c.args.feed c.args.entries.now.keys c.in-Some.ensures.ordered

pub returns : goal.returns
returns c =
    let found = sym (c.in-None.ensures.first ∙ ap (λ one. find (λ e. is_le (entry_cmp one e)) c.args.entries.now.keys) c.low-low.ensures) in
    ap (option_map seen) (sym (ap (cut (λ e. at_place c.args.number c.args.kind e && e.feed == c.args.feed)) found)) ∙ front-feed c.args.number c.args.kind c.args.feed c.args.entries.now.keys c.in-None.ensures.ordered
