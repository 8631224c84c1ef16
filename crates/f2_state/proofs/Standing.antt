-- What follows from where a volume stands.
use Rattle.std.proofs.Common.{◌≡◌, ℕ, Bool, true, false, ◌&&◌, length, ap, subst, ◌∙◌}
use Rattle.std.specs.Prelude.{Option, Some, None, MatchOption, is_none, if◌then◌else◌}
use Rattle.std.specs.FinMap as map
use Rattle.f2_format.specs.Inode.{SIZE_LIMIT}
use Rattle.f2_disk.specs.Contents.{Contents}
use Rattle.f2_image_laws.specs.Rolled.{image_limits}
use Rattle.f2_model.specs.Call.{refusal}
use Rattle.f2_model.specs.Tree.{Rows, IsGoodTree}
use Rattle.f2_model.specs.State.{State}
use Rattle.f2_model.specs.Step.{checking_seat, freezing}
use Rattle.f2_model.specs.declared.bounds.Limits.{Limits}
use Rattle.f2_model.specs.declared.replies.Reply.{Reply}
use Rattle.f2_model.specs.declared.requests.Request.{Request}
use Rattle.f2_files.specs.Known.{IsKnownOf}
use Rattle.f2_files.specs.Shape.{IsShapeOf}
use Rattle.f2_room_laws.specs.ProperTrees.{IsProperTree}
use Rattle.f2_state.specs.Barred.{IsHeard, IsUnheard}
use Rattle.f2_state.specs.Seen.{Seen}
use Rattle.f2_state.specs.Standing.{StandsIn, is_between}

-- a seat that nobody keeps off finds no checkpoint in flight
none_checks : (flying : Bool) (seat : ℕ) (checking : Option ℕ) → (if flying then Some seat else checking) ≡ None → checking ≡ None
none_checks true seat checking is = absurd (cc)
none_checks false seat checking is = is

pub between : (state : State) (seat : ℕ) → IsHeard state seat → is_between state ≡ true
between state seat is =
    ap (λ up. up && is_none (checking_seat state)) is.up
    ∙ ap (λ by. is_none by) (none_checks (map.contains_key state.flights seat) seat (checking_seat state) is.alone)

module _ {D : Type 0} (told : Option Contents) (volume : Seen D) (from : State) (stands : StandsIn told volume from) where
  -- the live tree is proper for the image that the volume knows
  pub proper_at : is_between from ≡ true → IsProperTree (image_limits volume.geometry) from.live
  proper_at quiet = subst_sizes (stands.stands.at.kept quiet).kept.proper
    where
      subst_sizes : IsProperTree (image_limits stands.stands.at.layout.base.ckpt.geom) from.live → IsProperTree (image_limits volume.geometry) from.live
      subst_sizes proper = subst (λ geom. IsProperTree (image_limits geom) from.live) stands.stands.at.sizes proper

  -- what a test of mode, history and calls in flight told
  pub told_by : (seat : ℕ) (found : Option Reply)
      → ((state : State) → volume.mode ≡ state.mode → state.entries ≡ length volume.history.entries → IsKnownOf volume.files state → MatchOption found (IsHeard state seat) (IsUnheard state seat))
      → MatchOption found (IsHeard from seat) (IsUnheard from seat)
  told_by seat found tells = tells from stands.stands.at.mode stands.stands.at.entries stands.stands.at.known

  pub heard_by : (seat : ℕ) (found : Option Reply)
      → ((state : State) → volume.mode ≡ state.mode → state.entries ≡ length volume.history.entries → IsKnownOf volume.files state → MatchOption found (IsHeard state seat) (IsUnheard state seat))
      → found ≡ None → IsHeard from seat
  heard_by seat found tells none = subst (λ o. MatchOption o (IsHeard from seat) (IsUnheard from seat)) none (told_by seat found tells)

  module _ (seat : ℕ) (request : Request) (heard : IsHeard from seat) where
    -- what tests of paths and rows told
    pub refusal_here : (limits : Limits) (found : Option Reply) → limits ≡ image_limits volume.geometry
        → ((most : ℕ) (tree : Rows) → IsGoodTree most tree → IsShapeOf volume.files.shapes tree → found ≡ refusal limits tree request)
        → found ≡ refusal (image_limits volume.geometry) from.live request
    refusal_here limits found granted tells =
        tells SIZE_LIMIT from.live (proper_at (between from seat heard)).good stands.stands.at.known.shapes ∙ ap (λ l. refusal l from.live request) granted

    pub freezing_here : (found : Option ℕ)
        → ((most : ℕ) (state : State) → IsGoodTree most state.live → IsKnownOf volume.files state → found ≡ freezing state request)
        → found ≡ freezing from request
    freezing_here found tells = tells SIZE_LIMIT from (proper_at (between from seat heard)).good stands.stands.at.known
