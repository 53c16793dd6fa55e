-- The answer of the reader of the first value line: what it stands for.
use Rattle.std.specs.Prelude.{ℕ, Option, Some, None}
use Rattle.clusters.specs.Cluster.{cluster}
use Rattle.cluster_list.specs.Cells.{needs_filled}
use Rattle.package_heading.specs.declared.heading.Fields.{Fields}
use Rattle.package_heading.specs.declared.heading.Heading.{Heading as HeadingStruct}
use Rattle.package_heading.specs.Heading.{Heading, heading}

-- what the first value line says, without the code's grouping of its fields
abbrev pub plain_heading : HeadingStruct → Heading
plain_heading h =
    heading h.fields.change (cluster h.fields.part h.version (needs_filled h.need)) h.fields.count h.fields.sum

-- the first value line, or none where it is ill-formed
abbrev pub heading_found : Option HeadingStruct → Option Heading
heading_found (Some h) = Some (plain_heading h)
heading_found None = None

-- what the fields cluster, payload and sum make of the first value line
abbrev pub of_fields : Fields → (ℕ → ℕ → ℕ → Option Heading) → Option Heading
of_fields fields f = f fields.part fields.count fields.sum
