-- One name that opens every definition that a computed example of a package reads: `unfolding computing`.
use Rattle.package_heading.specs.Open.{computing as heading_computing}
use Rattle.manifest.specs.Package.{only_need, further_lines, package_with, read_package}

unfoldable pub computing : Unit {0}
unfolding heading_computing only_need further_lines package_with read_package
computing = tt
