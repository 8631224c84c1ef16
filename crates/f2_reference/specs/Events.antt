-- Which events a plain machine takes.
use Rattle.f2_model.specs.Step.{IsSeat}
use Rattle.f2_model.specs.declared.events.Event.{Event}
use Rattle.f2_model.specs.declared.events.Event.TheVariants.{Begin}

-- a call begins from a seat that calls are made from
abbrev pub IsSeated : Event → Type 0
IsSeated (Begin seat request) = IsSeat seat
IsSeated _ = Unit {0}
