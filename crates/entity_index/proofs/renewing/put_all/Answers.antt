use Rattle.std.proofs.Common.{◌≡◌, ◌∙◌, ap, sym, rules}
use Rattle.entity_index.specs.Held.{at_key}
use Rattle.entity_index.specs.Put.{put_all, put_one}
use Rattle.entity_index.proofs.AtKey.{none_left}
use Rattle.entity_index.proofs.Coming.{put-same}
use Rattle.entity_index.proofs.renewing.put_all.Goals as goal

pub loop-came-init : goal.loop-came-init
loop-came-init c = λ k.
    let it : c.into_iter-came-iterator.result.rest.items ≡ c.args.incoming = search rules in
    ap (λ cs. put_all c.args.phase cs (λ q. at_key q c.args.entries.now.entries) k) it

pub loop-came-preserved : goal.loop-came-preserved
loop-came-preserved c = λ k.
    let old = c.loop-came.entries.entries in
    put-same c.args.phase c.next.new.self.rest.items (λ q. at_key q c.put_one.new.entries.entries) (put_one c.args.phase c.in-Some.came (λ q. at_key q old)) c.in_ok-put_one.ensures k
    ∙ ap (λ cs. put_all c.args.phase cs (λ q. at_key q old) k) (sym c.in-Some.ensures.steps.0) ∙ c.loop-came.invariant k

pub returns : goal.returns
returns c = λ k.
    let none = none_left c.loop-came.came-iterator.rest.items (sym c.loop-came.came-iterator.rest.ok.0 ∙ c.in-None.ensures.steps.0) in
    ap (λ cs. put_all c.args.phase cs (λ q. at_key q c.loop-came.entries.entries) k) (sym none) ∙ c.loop-came.invariant k
