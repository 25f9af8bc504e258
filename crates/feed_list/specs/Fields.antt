-- Borrowed fields as their bytes.
use Rattle.feed_list.specs.Rows.{Fields}
use Rattle.feed_list.specs.declared.row.RowFields.{RowFields}

abbrev pub fields_held : RowFields → Fields
fields_held fields = record { feed = fields.feed.now; moment = fields.moment.now; path = fields.path.now }
