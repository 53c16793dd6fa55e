-- One name that opens every definition that a computed example of a first value line reads: `unfolding computing`.
use Rattle.cluster_list.specs.Open.{computing as list_computing}
use Rattle.package_heading.specs.Heading.{change_of, remove_heading, cluster_heading, first_line}

unfoldable pub computing : Unit {0}
unfolding list_computing change_of remove_heading cluster_heading first_line
computing = tt
