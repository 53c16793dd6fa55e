-- One name that opens every definition that a computed example of a line reads: `unfolding computing`.
use Rattle.text.specs.Open.{computing as text_computing}
use Rattle.rows.specs.Field.{ends_field, field, behind_field, cell, field_byte}
use Rattle.rows.specs.Line.{line_from, line_text, plain_fields}
use Rattle.rows.specs.Columns.{column_from, cluster_columns, package_columns}
use Rattle.rows.specs.ListColumns.{four_columns, five_columns, list_columns}
use Rattle.rows.specs.Names.{times_named, times_in}

unfoldable pub computing : Unit {0}
unfolding text_computing ends_field field behind_field cell field_byte line_from line_text plain_fields column_from cluster_columns package_columns four_columns five_columns list_columns times_named times_in
computing = tt
