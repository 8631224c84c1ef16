-- Events of a core that change nothing.
use Rattle.std.proofs.Common.{◌≡◌, inl, ℕ, ◌≤◌, length, sym, subst, arith}
use Rattle.std.specs.Prelude.{Option, Some, None, IfSome}
use Rattle.f2_format.specs.Geometry.{ImageGeometry}
use Rattle.f2_disk.specs.Contents.{Contents}
use Rattle.f2_model.specs.State.{State}
use Rattle.f2_model.specs.declared.events.Answer.TheVariants as answers
use Rattle.f2_model.specs.declared.events.MountRefusal.TheVariants as refusals
use Rattle.f2_model.specs.Step.{IsSeat, MOST_ENTRIES, replied}
use Rattle.f2_model.specs.declared.events.Event.{Event}
use Rattle.f2_model.specs.declared.events.Answer.{Answer}
use Rattle.f2_model.specs.declared.events.Event.TheVariants.{Begin, Mount}
use Rattle.f2_model.specs.declared.events.Answer.TheVariants.{AlreadyMounted}
use Rattle.f2_model.specs.History.{History}
use Rattle.f2_model.specs.declared.requests.Request.{Request}
use Rattle.f2_model.specs.declared.replies.Reply.TheVariants as reply
use Rattle.f2_flat.specs.Flat.{limits_of}
use Rattle.f2_core.specs.Seen.{IsIn}
use Rattle.f2_core.specs.Events.{ComesTo}
use Rattle.f2_core.specs.declared.volumes.Volume.{Volume}
use Rattle.f2_core.proofs.Steps.{step-closed, step-spent, step-memory, step-mounted, step-no_memory, step-bad}
use Rattle.f2_core.proofs.Comes.{seen, stays}

-- what holds where there is something holds of it
pub of_some : {X : Type 0} (P : X → Type 0) (o : Option X) (x : X) → o ≡ Some x → IfSome o P → P x
of_some P o x is held = subst (λ v. IfSome v P) is held

module _ {D : Type 0} (disk after_disk : D) (geom : ImageGeometry) where
  -- the same of volumes that are known to be so
  known : (volume after_volume now after_now : Option Volume) (before after : History) (was told : Option Contents) (from : State) (event : Event) (answer : Answer) → volume ≡ now → after_volume ≡ after_now
      → (IsIn geom was now before from → ComesTo (seen disk geom now before) (seen after_disk geom after_now after) told from event answer)
      → IsIn geom was volume before from → ComesTo (seen disk geom volume before) (seen after_disk geom after_volume after) told from event answer
  known volume after_volume now after_now before after was told from event answer is after_is comes at =
      subst (λ v. ComesTo (seen disk geom v before) (seen after_disk geom after_volume after) told from event answer) (sym is)
      (subst (λ v. ComesTo (seen disk geom now before) (seen after_disk geom v after) told from event answer) (sym after_is) (comes (subst (λ v. IsIn geom was v before from) is at)))

  pub closed : (volume after_volume : Option Volume) (before after : History) (was told : Option Contents) (from : State) → IsIn geom was volume before from → volume ≡ None → after_volume ≡ None → (seat : ℕ) (seated : IsSeat seat) (request : Request)
      → after.entries ≡ before.entries → after.choices ≡ before.choices → told ≡ was → ComesTo (seen disk geom volume before) (seen after_disk geom after_volume after) told from (Begin seat request) (replied reply.Closed)
  closed volume after_volume before after was told from at none after_none seat seated request entries choices same =
      known volume after_volume None None before after was told from (Begin seat request) (replied reply.Closed) none after_none (λ is.
      stays disk after_disk geom None before after was told from is (Begin seat request) (replied reply.Closed) (step-closed (limits_of geom) from seat seated request is.mode) (λ short. inl short) entries choices same) at

  pub spent : (volume after_volume : Option Volume) (opened : Volume) (before after : History) (was told : Option Contents) (from : State) → IsIn geom was volume before from → volume ≡ Some opened → after_volume ≡ Some opened → MOST_ENTRIES ≤ length before.entries
      → (seat : ℕ) (seated : IsSeat seat) (request : Request) → after.entries ≡ before.entries → after.choices ≡ before.choices → told ≡ was → ComesTo (seen disk geom volume before) (seen after_disk geom after_volume after) told from (Begin seat request) (replied reply.Spent)
  spent volume after_volume opened before after was told from at some after_some late seat seated request entries choices same =
      known volume after_volume (Some opened) (Some opened) before after was told from (Begin seat request) (replied reply.Spent) some after_some (λ is.
      stays disk after_disk geom (Some opened) before after was told from is (Begin seat request) (replied reply.Spent)
      (step-spent (limits_of geom) from seat seated request is.mode (let count = is.entries in omega (arith, count, late))) (λ short. inl short) entries choices same) at

  pub no_memory : (volume after_volume : Option Volume) (opened : Volume) (before after : History) (was told : Option Contents) (from : State) → IsIn geom was volume before from → volume ≡ Some opened → after_volume ≡ Some opened
      → (seat : ℕ) (seated : IsSeat seat) (request : Request) → after.entries ≡ before.entries → after.choices ≡ before.choices → told ≡ was → ComesTo (seen disk geom volume before) (seen after_disk geom after_volume after) told from (Begin seat request) (replied reply.Memory)
  no_memory volume after_volume opened before after was told from at some after_some seat seated request entries choices same =
      known volume after_volume (Some opened) (Some opened) before after was told from (Begin seat request) (replied reply.Memory) some after_some (λ is.
      stays disk after_disk geom (Some opened) before after was told from is (Begin seat request) (replied reply.Memory) (step-memory (limits_of geom) from seat seated request) (λ short. inl short) entries choices same) at

  pub already_open : (volume : Option Volume) (opened : Volume) (before after : History) (was told : Option Contents) (from : State) → IsIn geom was volume before from → volume ≡ Some opened
      → after.entries ≡ before.entries → after.choices ≡ before.choices → told ≡ was → ComesTo (seen disk geom volume before) (seen after_disk geom volume after) told from Mount AlreadyMounted
  already_open volume opened before after was told from at some entries choices same =
      known volume volume (Some opened) (Some opened) before after was told from Mount AlreadyMounted some some (λ is.
      stays disk after_disk geom (Some opened) before after was told from is Mount AlreadyMounted (step-mounted (limits_of geom) from is.mode) (λ short. short) entries choices same) at

  pub unmounted : (volume : Option Volume) (before after : History) (was told : Option Contents) (from : State) → IsIn geom was volume before from → volume ≡ None
      → after.entries ≡ before.entries → after.choices ≡ before.choices → told ≡ was → ComesTo (seen disk geom volume before) (seen after_disk geom volume after) told from Mount (answers.NotMounted refusals.NoMemory)
  unmounted volume before after was told from at none entries choices same =
      known volume volume None None before after was told from Mount (answers.NotMounted refusals.NoMemory) none none (λ is.
      stays disk after_disk geom None before after was told from is Mount (answers.NotMounted refusals.NoMemory) (step-no_memory (limits_of geom) from is.mode) (λ short. short) entries choices same) at

  pub unfound : (volume : Option Volume) (before after : History) (was told : Option Contents) (from : State) → IsIn geom was volume before from → volume ≡ None
      → after.entries ≡ before.entries → after.choices ≡ before.choices → told ≡ was → ComesTo (seen disk geom volume before) (seen after_disk geom volume after) told from Mount (answers.NotMounted refusals.BadImage)
  unfound volume before after was told from at none entries choices same =
      known volume volume None None before after was told from Mount (answers.NotMounted refusals.BadImage) none none (λ is.
      stays disk after_disk geom None before after was told from is Mount (answers.NotMounted refusals.BadImage) (step-bad (limits_of geom) from is.mode) (λ short. short) entries choices same) at
