use Rattle.std.proofs.Common.{◌∙◌, sym, ap}
use Rattle.f2_shape.specs.Routes.{route_of}
use Rattle.f2_call_size.proofs.OnTheWay.{no_route, route_nodes, way_past}
use Rattle.f2_call_size.proofs.ways.way_to.Goals as goal

pub returns-in-Some : goal.returns-in-Some
returns-in-Some c = route_nodes c.args.page c.in-Some.route (sym (ap route_of c.from.ensures) ∙ sym c.path_of.ensures ∙ c.in-Some.is)

pub returns-in-None : goal.returns-in-None
returns-in-None c = sym (way_past c.args.page (no_route c.args.page (sym (ap route_of c.from.ensures) ∙ sym c.path_of.ensures ∙ c.in-None.is)))
