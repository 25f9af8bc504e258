use Rattle.std.proofs.Common.{IfSome, subst}
use Rattle.rt_outside.specs.Store.{left}
use Rattle.run_base.specs.Found.{kept_bytes}
use Rattle.run_base.specs.Pieces.{TellsCame}
use Rattle.run_base.proofs.Pieces.{opened_found}
use Rattle.run_base.proofs.snapshot_file.read_kept.Goals as goal

pub returns-in_ok-splitter-in-Opened-clause-found : goal.returns-in_ok-splitter-in-Opened-clause-found
returns-in_ok-splitter-in-Opened-clause-found g c =
    opened_found (g.F.Files.state c.args.files.now).told c.args.file.now c.in_ok-splitter-in-Opened.splitter c.kept.result kept_bytes c.in-Opened.ensures.held
    (subst (λ told. IfSome told (λ store. TellsCame (left store) c.in_ok-splitter-in-Opened.splitter)) c.in-Opened.ensures.store c.in_ok-splitter-in-Opened.ensures.pieces) c.kept.ensures.found
