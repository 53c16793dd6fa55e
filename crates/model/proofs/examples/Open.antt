-- One name that opens every definition that a computed example reads, of the model and of the crates below it:
-- `unfolding computing`.
use Rattle.base.specs.Refusals.{first_refusal, none_applies}
use Rattle.checksum.specs.Sum.{step as sum_step, continued, sum_number, sum_of, sums_within}
use Rattle.text.specs.Number.{digit_of, number_goes_on, number_begins, whole_number}
use Rattle.text.specs.Version.{version_within, dotted_at, version_at, whole_version, version_text}
use Rattle.text.specs.Word.{same_bytes}
use Rattle.text.specs.Digits.{digits_in, digits}
use Rattle.rows.specs.Field.{ends_field, field, behind_field, cell}
use Rattle.rows.specs.Line.{line_from, line_text}
use Rattle.rows.specs.Columns.{column_from, cluster_columns, package_columns}
use Rattle.rows.specs.ListColumns.{four_columns, five_columns, list_columns}
use Rattle.clusters.specs.Version.{above, at_or_above, fulfils}
use Rattle.clusters.specs.Cluster.{part_within, need_within, needs_within, cluster_within}
use Rattle.clusters.specs.Table.{find as find_cluster, meets, meets_all, needs_met_of, needs_met, rising_above, table_within}
use Rattle.actions.specs.Action.{insert, replace, take_out, apply, apply_all, action_within, actions_within}
use Rattle.actions.specs.Refusals.{touched, cluster_present, cluster_absent, cluster_stays, old_version, table_full, action_refusals, passes, pass_in_turn}
use Rattle.cluster_list.specs.Cells.{part_field, need_of}
use Rattle.cluster_list.specs.Mark.{mark_field, no_mark}
use Rattle.cluster_list.specs.Read.{last_part, cluster_added, need_added, need_line, cluster_begun, cluster_line, value_line, value_lines, read_list}
use Rattle.cluster_list.specs.Write.{need_line_text, need_lines_text, cluster_lines, clusters_text, list_text}
use Rattle.package_heading.specs.Heading.{change_of, remove_heading, cluster_heading, first_line}
use Rattle.manifest.specs.Package.{only_need, further_lines, package_with, read_package}
use Rattle.model.specs.Permissions.{allowed}
use Rattle.model.specs.Areas.{declared, free, find, package_of, area_start, area_of, overwritten, block_put, remaining, remaining_areas, deleted, changed, count_in, processing_id}
use Rattle.model.specs.Tables.{staged, running_in, running}
use Rattle.model.specs.Sound.{store_sound, received_sound, package_sound, packages_rise, transfers_sound, is_listed, processed_as_listed, list_sound, session_sound, work_sound, kept_sound, processing_sound, list_fits, sound_for}
use Rattle.model.specs.Step.{own_refusals, further_refusals, refusals, sum_compared, worked, cleaned_up, report_outcome, act, step}
use Rattle.model.specs.Load.{is_bad_load, load}
use Rattle.model.specs.Run.{run, accepted_only}
use Rattle.model.specs.Journal.{opened, action_in, block_joined, returned, package_processed, package_left, report_done, work_noted, report_noted, accepted_noted, noted, journal}
use Rattle.model.specs.Reading.{further_report_refusals, report_refusals, report_reply, report_buffer, report_of, packages_report, cluster_info_report, change_info_report, package_records, cluster_info, change_lines, change_info, further_payload_refusals, payload_refusals, payload_part, payload_reply, payload, payload_check, progress_of, progress_refusals, progress}

unfoldable pub computing : Unit {0}
unfolding first_refusal none_applies sum_step continued sum_number sum_of sums_within digit_of number_goes_on number_begins whole_number version_within dotted_at version_at whole_version version_text same_bytes digits_in digits ends_field field behind_field cell line_from line_text column_from cluster_columns package_columns four_columns five_columns list_columns above at_or_above fulfils part_within need_within needs_within cluster_within find_cluster insert replace take_out meets meets_all needs_met_of needs_met rising_above table_within apply apply_all touched cluster_present cluster_absent cluster_stays old_version table_full action_refusals passes pass_in_turn action_within actions_within part_field need_of mark_field no_mark last_part cluster_added need_added need_line cluster_begun cluster_line value_line value_lines read_list need_line_text need_lines_text cluster_lines clusters_text list_text change_of remove_heading cluster_heading first_line only_need further_lines package_with read_package allowed declared free find package_of area_start area_of overwritten block_put remaining remaining_areas deleted changed count_in processing_id staged running_in running store_sound received_sound package_sound packages_rise transfers_sound is_listed processed_as_listed list_sound session_sound work_sound kept_sound processing_sound list_fits sound_for own_refusals further_refusals refusals sum_compared worked cleaned_up report_outcome act step is_bad_load load run accepted_only opened action_in block_joined returned package_processed package_left report_done work_noted report_noted accepted_noted noted journal further_report_refusals report_refusals report_reply report_buffer report_of packages_report cluster_info_report change_info_report package_records cluster_info change_lines change_info further_payload_refusals payload_refusals payload_part payload_reply payload payload_check progress_of progress_refusals progress
computing = tt
