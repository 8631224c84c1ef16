-- Which sizes an image can have.
use Rattle.std.specs.Prelude.{ℕ, if◌then◌else◌, Result, Ok, Err}
use Rattle.f2_format.specs.Geometry.{ImageGeometry, node_third, nid_limit, breaks_blocks, breaks_nat, breaks_zones, breaks_nids}
use Rattle.f2_layout.specs.declared.geometry.BadGeometry.{BadGeometry}
use Rattle.f2_layout.specs.declared.geometry.Limit.{Limit}
use Rattle.f2_layout.specs.declared.geometry.Limit.TheVariants.{Blocks, Nat, Zones, Nids}

-- a limit, and the number that breaks it
abbrev pub broken : Limit → ℕ → Result ImageGeometry BadGeometry
broken limit value = Err record { limit = limit; value = value }

-- the sizes, or the first limit that they break
abbrev pub geometry_of : ImageGeometry → Result ImageGeometry BadGeometry
geometry_of geom =
    if breaks_blocks geom then broken Blocks geom.blocks
    else if breaks_nat geom then broken Nat geom.nat
    else if breaks_zones geom then broken Zones (node_third geom)
    else if breaks_nids geom then broken Nids (nid_limit geom)
    else Ok geom
