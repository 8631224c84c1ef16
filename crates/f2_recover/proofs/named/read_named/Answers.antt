use Rattle.std.proofs.Common.{◌≡◌, ◌∙◌, true, refl, sym, ap}
use denote.Enum.Bare.{sameb}
use Rattle.f2_model.specs.contracts.rows.Kind.{the_type}
use Rattle.f2_model.specs.declared.rows.Kind.{Kind}
use Rattle.f2_model.specs.declared.rows.Kind.TheVariants.{Regular, Directory}
use Rattle.f2_recover.proofs.Sets.{not_both}
use Rattle.f2_recover.proofs.Telling.{fault_holds, read_on, tells_on}
use Rattle.f2_recover.proofs.named.read_named.Goals as goal
use Rattle.f2_recover.proofs.named.read_named.Goals.{then-eq+in_ok-check_size, else-eq}

regular_is : (kind : Kind) → true ≡ sameb the_type kind Regular → kind ≡ Regular
regular_is Regular tested = refl
regular_is Directory tested = absurd (not_both refl tested)

pub returns-in_err-check_kind-clause-fault : goal.returns-in_err-check_kind-clause-fault
returns-in_err-check_kind-clause-fault g c =
    fault_holds _ _ _ c.from_residual-in_err-check_kind.ensures.1
    (λ image ckpt inos read reached named below are.
    let file = c.in_ok-file.ensures.file image ckpt inos (read_on _ _ _ _ _ image ckpt refl c.requires.geom read) reached are in
    c.in_err-check_kind.ensures.fault image ckpt _ read.has file.is named)

pub returns-in_err-check_depth-clause-fault : goal.returns-in_err-check_depth-clause-fault
returns-in_err-check_depth-clause-fault g c =
    fault_holds _ _ _ c.from_residual-in_err-check_depth.ensures.1
    (λ image ckpt inos read reached named below are.
    let file = c.in_ok-file.ensures.file image ckpt inos (read_on _ _ _ _ _ image ckpt refl c.requires.geom read) reached are in
    c.in_err-check_depth.ensures.fault image ckpt _ read.has file.is below)

pub returns-in_err-check_size-clause-fault : goal.returns-in_err-check_size-clause-fault
returns-in_err-check_size-clause-fault g c =
    fault_holds _ _ _ c.from_residual-in_err-check_size.ensures.1
    (λ image ckpt inos read reached named below are.
    let file = c.in_ok-file.ensures.file image ckpt inos (read_on _ _ _ _ _ image ckpt refl c.requires.geom read) reached are in
    c.in_err-check_size.ensures.fault image ckpt inos _ (tells_on _ _ image c.in_ok-file.ensures.reads.kept read.tells) read.has read.geom_is (regular_is _ c.if-eq.ensures) file)

pub returns-clause-file : goal.returns-clause-file
returns-clause-file g c image ckpt inos read reached are = c.in_ok-file.ensures.file image ckpt inos (read_on _ _ _ _ _ image ckpt refl c.requires.geom read) reached are

pub returns-clause-ends : goal.returns-clause-ends
returns-clause-ends g c image ckpt inos read reached are regular page at base past = elim c.if-eq.branch [
  | then-eq+in_ok-check_size w ↦ (
      w.in_ok-check_size.ensures.right image ckpt inos _ (tells_on _ _ image c.in_ok-file.ensures.reads.kept read.tells)
      (c.in_ok-file.ensures.file image ckpt inos (read_on _ _ _ _ _ image ckpt refl c.requires.geom read) reached are) page at base past
      )
  | else-eq w ↦ absurd (not_both (ap (λ kind. sameb the_type kind Regular) regular) (sym c.eq.ensures ∙ w.if-eq.false))
]
