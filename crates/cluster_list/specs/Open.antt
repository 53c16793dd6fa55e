-- One name that opens every definition that a computed example of a list reads: `unfolding computing`.
use Rattle.rows.specs.Open.{computing as rows_computing}
use Rattle.cluster_list.specs.Cells.{part_field, need_of}
use Rattle.cluster_list.specs.Mark.{mark_field, no_mark}
use Rattle.cluster_list.specs.Read.{last_part, cluster_added, need_added, need_line, cluster_begun, cluster_line, value_line, value_lines, read_list}
use Rattle.cluster_list.specs.Write.{need_line_text, need_lines_text, cluster_lines, clusters_text, list_text}
use Rattle.cluster_list.specs.FourNames.{unmarked, no_marks}

unfoldable pub computing : Unit {0}
unfolding rows_computing part_field need_of mark_field no_mark last_part cluster_added need_added need_line cluster_begun cluster_line value_line value_lines read_list need_line_text need_lines_text cluster_lines clusters_text list_text unmarked no_marks
computing = tt
