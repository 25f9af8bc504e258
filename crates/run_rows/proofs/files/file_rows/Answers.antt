use Rattle.std.proofs.Common.{◌≡◌, ◌<◌, ◌++◌, ◌∷◌, [], ◌∙◌, ap, get_or, length, subst}
use Rattle.feed_list.specs.declared.row.SnapshotRow.{SnapshotRow}
use Rattle.run_rows.proofs.FileRows.{next_row}
use Rattle.run_rows.proofs.files.file_rows.Goals as goal

pub loop-index-preserved : goal.loop-index-preserved
loop-index-preserved c =
    let index = c.loop-index.index in
    let name = c.name-item.result in
    let same = c.loop-index.invariant.same in
    record {
      same = same;
      rows_are = next_row c.args.moment c.args.names.now index name c.loop-index.rows c.push.new.self
          (subst (λ names. index < length names) same c.loop-index-test.true) (subst (λ names. name ≡ get_or names index name) same c.name-item.is) c.loop-index.invariant.rows_are
          (c.in_ok-push.ensures.ok ∙ ap (λ path. c.loop-index.rows ++ (let row : SnapshotRow = record { feed = index; moment = c.args.moment; path = path } in row) ∷ []) c.in_ok-path.ensures);
    }
