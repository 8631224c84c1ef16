use Rattle.std.proofs.Common.{◌≡◌, ◌≤◌, length, sym, subst}
use Rattle.std.specs.Prelude.{All, IsSome}
use mathlib.Core.List.{IsPrefix}
use Rattle.f2_seat_lock.specs.Map.{all_parts}
use Rattle.f2_seat_lock.specs.Known.{Known}
use Rattle.f2_seat_lock.specs.Rule.{Fits}
use Rattle.f2_seat_lock.proofs.Maps.{whole_there, whole_is_all}
use Rattle.f2_seat_lock.proofs.Steps.{closes}
use Rattle.f2_seat_lock.proofs.lock.SeatLock.close.Given
use Rattle.f2_seat_lock.proofs.lock.SeatLock.close.Goals as goal

-- what the pass knows is true of the value
true_of_it : (g : Given.Over) (c : goal.After-free g) → Fits g.V.Parts.log g.V.Parts.part g.V.Parts.marks_in c.take-value.result c.into_token.result.me.0
true_of_it g c =
    let token = c.into_token.ensures in
    let whole = subst (λ (k : Known g.row.V-Part.Denot g.row.V-Entry.Denot). All IsSome k.parts) (sym token.known) c.requires.whole in
    closes _ _ _ _ _ _ _ token.rests.1.holds token.own (λ k l. whole_there _ k whole l) c.close_with-closed.ensures.values.2 c.take-value.result c.take-value.ensures.value

pub returns-clause-log : goal.returns-clause-log
returns-clause-log g c = subst (λ (k : Known g.row.V-Part.Denot g.row.V-Entry.Denot). IsPrefix k.seen (g.V.Parts.log c.take-value.result)) c.into_token.ensures.known (true_of_it g c).seen

pub returns-clause-told : goal.returns-clause-told
returns-clause-told g c = subst (λ (k : Known g.row.V-Part.Denot g.row.V-Entry.Denot). k.told ≤ g.V.Parts.marks_in (g.V.Parts.log c.take-value.result)) c.into_token.ensures.known (true_of_it g c).told

pub returns-clause-parts : goal.returns-clause-parts
returns-clause-parts g c =
    let token = c.into_token.ensures in
    let whole = subst (λ (k : Known g.row.V-Part.Denot g.row.V-Entry.Denot). All IsSome k.parts) (sym token.known) c.requires.whole in
    subst (λ (k : Known g.row.V-Part.Denot g.row.V-Entry.Denot). k.parts ≡ all_parts (g.V.Parts.part c.take-value.result) (length k.parts)) token.known (whole_is_all _ _ whole (true_of_it g c).parts)
