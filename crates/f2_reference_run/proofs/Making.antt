-- What a `mkfs` line comes to on the plain machine: a mount, the tail of its checkpoint, and its last flush.
use Rattle.std.proofs.Common.{◌≡◌, ◌∙◌, ℕ, Bool, true, false, cond, [], ◌∷◌, MatchOption, arith, refl, sym, ap, subst, inl, inr}
use Rattle.std.specs.Prelude.{Option, Some, None}
use Rattle.std.specs.FinMap as map
use Rattle.std.specs.FinMap.{nat_cmp-IsAntisymmetric}
use Rattle.std.specs.Ordering.{nat_cmp, eq_by_cmp}
use Rattle.std.specs.Cmp.{nat_cmp_total, unsigned_tied}
use Rattle.f2_format.specs.Geometry.{ImageGeometry, node_third, data_third}
use Rattle.f2_model.specs.declared.bounds.Limits.{Limits}
use Rattle.f2_model.specs.declared.histories.Entry.TheVariants as entry
use Rattle.f2_model.specs.declared.replies.Plan.TheVariants as plans
use Rattle.f2_model.specs.declared.replies.Step.TheVariants as step
use Rattle.f2_model.specs.Tree.{root_alone}
use Rattle.f2_model.specs.State.{Flight, InCheck, base_up_to, initial}
use Rattle.f2_model.specs.declared.events.Event.TheVariants.{Go, Mount}
use Rattle.f2_model.specs.declared.events.Answer.TheVariants.{Stepped}
use Rattle.f2_model.specs.Step.{Turn, StepGo, calm, MOUNT_SEAT, found, turn_with, completes}
use Rattle.f2_model.specs.Run.{Happening, Happened}
use Rattle.f2_reference.specs.Sound.{made_by}
use Rattle.f2_script.specs.Steps.{made_spelling}
use Rattle.f2_play.specs.Parts.{Part}
use Rattle.f2_play.specs.Lines.{PlaysMkfs, ended, new_image}

-- the turns of the mount, of the tail and of the last flush
abbrev mounts : Turn
mounts = found (initial new_image) (base_up_to (initial new_image) 0) 0

abbrev tails : Turn
tails = turn_with (Stepped step.Tail) (entry.CpTail MOUNT_SEAT ∷ []) [] (record mounts.after { pending = Some root_alone })

abbrev ends : Turn
ends = completes tails.after MOUNT_SEAT plans.Sync

abbrev mounted : Happening
mounted = record { event = Mount; faults = calm; turn = mounts }

abbrev tailed : Happening
tailed = record { event = Go MOUNT_SEAT; faults = calm; turn = tails }

abbrev flushed : Happening
flushed = record { event = Go MOUNT_SEAT; faults = calm; turn = ends }

-- the flight of the mount alone, which is there, and gone without it
abbrev alone : map.FinMap nat_cmp Flight
alone = map.insert map.empty MOUNT_SEAT (InCheck plans.Sync)

alone_there : map.get alone MOUNT_SEAT ≡ Some (InCheck plans.Sync)
alone_there = map.get-insert nat_cmp_total map.empty MOUNT_SEAT (InCheck plans.Sync) MOUNT_SEAT ∙ ap (λ b. cond b (Some (InCheck plans.Sync)) (map.get (map.empty {R = nat_cmp}) MOUNT_SEAT)) (unsigned_tied MOUNT_SEAT MOUNT_SEAT)

alone_gone : map.remove alone MOUNT_SEAT ≡ map.empty
alone_gone = map.same_map nat_cmp_total nat_cmp-IsAntisymmetric _ _ (λ q. map.get-remove nat_cmp_total alone MOUNT_SEAT q ∙ by_tie q (eq_by_cmp nat_cmp q MOUNT_SEAT) refl ∙ sym (map.get-empty nat_cmp q))
  where
    by_tie : (q : ℕ) (b : Bool) → eq_by_cmp nat_cmp q MOUNT_SEAT ≡ b → cond b None (map.get alone q) ≡ None
    by_tie q true tie = refl
    by_tie q false tie = map.get-insert nat_cmp_total map.empty MOUNT_SEAT (InCheck plans.Sync) q ∙ ap (λ b. cond b (Some (InCheck plans.Sync)) (map.get (map.empty {R = nat_cmp}) q)) tie ∙ map.get-empty nat_cmp q

to_some : {X : Type 0} (o : Option X) (P : Type 0) (Q : X → Type 0) (x : X) → o ≡ Some x → Q x → MatchOption o P Q
to_some o P Q x is q = subst (λ p. MatchOption p P Q) (sym is) q

tail_step : StepGo calm mounts.after MOUNT_SEAT tails
tail_step = to_some (map.get alone MOUNT_SEAT) _ _ (InCheck plans.Sync) alone_there (inr (inl refl))

end_step : StepGo calm tails.after MOUNT_SEAT ends
end_step = to_some (map.get alone MOUNT_SEAT) _ _ (InCheck plans.Sync) alone_there (inl refl)

-- the machine after them is the one that is made
ends_made : (limits : Limits) → ends.after ≡ (made_by limits).state
ends_made limits = ap (λ flights. record (made_by limits).state { flights = flights }) alone_gone

mkfs_happened : (limits : Limits) → Happened limits calm (initial new_image) (mounted ∷ tailed ∷ flushed ∷ []) (made_by limits).state
mkfs_happened limits = (
  omega arith,
  omega arith,
  inl (0, omega arith, omega arith, refl),
  (omega arith, omega arith, tail_step, (omega arith, omega arith, end_step, (omega arith, ends_made limits))),
)

-- what the line comes to
abbrev pub mkfs_part : Limits → ImageGeometry → Part
mkfs_part limits geom = record {
  text = ended (made_spelling (node_third geom) (data_third geom));
  events = mounted ∷ tailed ∷ flushed ∷ [];
  faults = calm;
  after = (made_by limits).state;
}

pub mkfs_played : (limits : Limits) (geom : ImageGeometry) → PlaysMkfs limits geom (mkfs_part limits geom)
mkfs_played limits geom = record {
  happened = mkfs_happened limits;
  mounted = record {
    one = mounted;
    rest = tailed ∷ flushed ∷ [];
    whole = refl;
    happens = record { event_is = refl; answered = refl };
    goes = record {
      before = tailed ∷ [];
      last = flushed;
      whole = refl;
      passed = (record { early = step.Tail; happens = record { event_is = refl; answered = refl }; goes_on = refl }, tt);
      happens = record { event_is = refl; answered = refl };
      stopped = refl;
    };
  };
  said = refl;
}
