-- What a scan knows of the image of its disk, where that is told, at each of its steps.
use Rattle.std.proofs.Common.{◌≡◌, ◌≢◌, ℕ, zero, suc, ◌+◌, ◌<◌, ◌≤◌, true, false, List, [], ◌∷◌, ◌++◌, length, Option, Some, None, is_some, refl, sym, ap, ◌∙◌, arith, subst}
use Rattle.std.specs.Prelude.{Result, Ok, Err, All, slice_index_or}
use Rattle.std.specs.Option.{IfSome}
use Rattle.std.specs.Result.{IfErr, IsErrAnd}
use Rattle.std.proofs.lemmas.List.Elements.{All-append}
use Rattle.f2_disk.specs.Contents.{Contents, latest}
use Rattle.f2_format.specs.Footer.{footer_next}
use Rattle.f2_format.specs.Geometry.{ImageGeometry, node_third}
use Rattle.f2_image.specs.Images.{Image}
use Rattle.f2_image.specs.Chains.{Logged, no_block}
use Rattle.f2_scan.specs.declared.faults.ScanFault.{ScanFault}
use Rattle.f2_scan.specs.declared.faults.ScanFault.TheVariants.{Read, ChainLong, BadInode, OutOfZone, Memory}
use Rattle.f2_scan.specs.Logs.{IsBlockFault, IsFault, log_from, logged_at}
use Rattle.f2_scan.proofs.Walks.{IsWalked, StandsNext, walked_all, walked_more, walked_next}

-- an option that is some, and an error that is passed on
pub some_holds : {X : Type 0} (found : Option X) (x : X) (P : X → Type 0) → found ≡ Some x → IfSome found P → P x
some_holds {X} found x P is holds = subst (λ (o : Option X). IfSome o P) is holds

pub fault_holds : {T E : Type 0} (result : Result T E) (e : E) (P : E → Type 0) → IsErrAnd result (λ x. x ≡ e) → P e → IfErr result P
fault_holds (Ok t) e P is holds = tt
fault_holds (Err x) e P is holds = subst P (sym is) holds

-- one element more
pub all_more : {X : Type 0} (P : X → Type 0) (xs ys : List X) (x : X) → ys ≡ xs ++ x ∷ [] → All P xs → P x → All P ys
all_more {X} P xs ys x is all holds = subst (λ (zs : List X). All P zs) (sym is) (All-append P xs (x ∷ []) all alone)
  where
    alone : All P (x ∷ [])
    alone zero d within = holds
    alone (suc k) d within = absurd (omega (arith, within))

-- what is wrong with a block that stands in a log is a fault of the log
fault_stands : (geom : ImageGeometry) (log : List Logged) (place : ℕ) (fault : ScanFault) → place < length log → IsBlockFault geom (slice_index_or log place no_block) fault → IsFault geom log fault
fault_stands geom log place Read within wrong = absurd wrong
fault_stands geom log place (ChainLong at) within wrong = absurd wrong
fault_stands geom log place (BadInode at why) within wrong = record { place = place; within = within; wrong = wrong }
fault_stands geom log place (OutOfZone at) within wrong = record { place = place; within = within; wrong = wrong }
fault_stands geom log place Memory within wrong = absurd wrong

-- a disk that held what it holds now; `held` is what was told of it when the scan began
module _ (held now : Option Contents) (same : now ≡ held) (geom : ImageGeometry) (version start : ℕ) (log : List Logged) (at : ℕ) where
  -- what holds of the image that is told, from what held of it before and what a read gave
  with_read : (P Q R : Image → Type 0) → ((image : Image) → P image → Q image → R image)
      → IfSome held (λ lists. P (latest lists)) → IfSome now (λ lists. Q (latest lists)) → IfSome held (λ lists. R (latest lists))
  with_read P Q R f p q = by held p (subst (λ (told : Option Contents). IfSome told (λ lists. Q (latest lists))) same q)
    where
      by : (told : Option Contents) → IfSome told (λ lists. P (latest lists)) → IfSome told (λ lists. Q (latest lists)) → IfSome told (λ lists. R (latest lists))
      by None p q = tt
      by (Some lists) p q = f (latest lists) p q

  module _ (found : Option Logged) (walked : IfSome held (λ lists. IsWalked (latest lists) version start log at)) (read : IfSome now (λ lists. found ≡ logged_at (latest lists) version at)) where
    -- the walk goes on with the block that was read
    pub goes_on : (x : Logged) (next : ℕ) (more : List Logged) → found ≡ Some x → next ≡ footer_next x.block → more ≡ log ++ x ∷ []
        → IfSome held (λ lists. IsWalked (latest lists) version start more next)
    goes_on x next more is names grown =
        with_read (λ image. IsWalked image version start log at) (λ image. found ≡ logged_at image version at) (λ image. IsWalked image version start more next)
        (λ image before there.
        subst (λ (xs : List Logged). IsWalked image version start xs next) (sym grown)
        (subst (λ (k : ℕ). IsWalked image version start (log ++ x ∷ []) k) (sym names) (walked_more image version start log at x before (sym there ∙ is))))
        walked read

    -- the log ends: what was walked is all of it
    pub ends : found ≡ None → length log ≤ node_third geom → IfSome held (λ lists. log ≡ log_from geom (latest lists) version start)
    ends none within =
        with_read (λ image. IsWalked image version start log at) (λ image. found ≡ logged_at image version at) (λ image. log ≡ log_from geom image version start)
        (λ image before there. sym (walked_all image version start log at (node_third geom + 1) before (sym there ∙ none) (omega (arith, within))))
        walked read

    -- the block that was read is wrong
    pub is_wrong : (x : Logged) (fault : ScanFault) → found ≡ Some x → length log < node_third geom → IsBlockFault geom x fault
        → IfSome held (λ lists. IsFault geom (log_from geom (latest lists) version start) fault)
    is_wrong x fault is within wrong =
        with_read (λ image. IsWalked image version start log at) (λ image. found ≡ logged_at image version at) (λ image. IsFault geom (log_from geom image version start) fault)
        (λ image before there.
        let stands : StandsNext (log_from geom image version start) log x =
        walked_next image version start log at (node_third geom + 1) x before (sym there ∙ is) (omega (arith, within)) in
        fault_stands geom (log_from geom image version start) (length log) fault stands.within
        (subst (λ (l : Logged). IsBlockFault geom l fault) (sym stands.is) wrong))
        walked read

    -- the log goes on after a third of the node zone
    pub is_long : (x : Logged) → found ≡ Some x → length log ≡ node_third geom → x.at ≡ at
        → IfSome held (λ lists. IsFault geom (log_from geom (latest lists) version start) (ChainLong at))
    is_long x is third own =
        with_read (λ image. IsWalked image version start log at) (λ image. found ≡ logged_at image version at) (λ image. IsFault geom (log_from geom image version start) (ChainLong at))
        (λ image before there.
        let chain : List Logged = log_from geom image version start in
        let stands : StandsNext chain log x =
        walked_next image version start log at (node_third geom + 1) x before (sym there ∙ is) (omega (arith, third)) in (
          subst (λ (k : ℕ). k < length chain) third stands.within,
          sym own ∙ ap (λ (l : Logged). l.at) (sym stands.is) ∙ ap (λ (k : ℕ). (slice_index_or chain k no_block).at) third,
        ))
        walked read

    -- the same, where it is only known that a block was read, which stands at the address
    pub is_long_at : true ≡ is_some found → length log ≡ node_third geom → IfSome found (λ logged. (logged.at ≡ at) × (at ≢ 0))
        → IfSome held (λ lists. IsFault geom (log_from geom (latest lists) version start) (ChainLong at))
    is_long_at some third places = by found refl some places
      where
        by : (o : Option Logged) → found ≡ o → true ≡ is_some o → IfSome o (λ logged. (logged.at ≡ at) × (at ≢ 0))
            → IfSome held (λ lists. IsFault geom (log_from geom (latest lists) version start) (ChainLong at))
        by None is some places = absurd (no some)
          where
            no : true ≡ false → ⊥
            no h = cc
        by (Some x) is some places = is_long x is third places.0

    -- and where it is only known that none was
    pub ends_at : false ≡ is_some found → length log ≤ node_third geom → IfSome held (λ lists. log ≡ log_from geom (latest lists) version start)
    ends_at none within = by found refl none
      where
        by : (o : Option Logged) → found ≡ o → false ≡ is_some o → IfSome held (λ lists. log ≡ log_from geom (latest lists) version start)
        by None is none = ends is within
        by (Some x) is none = absurd (no none)
          where
            no : false ≡ true → ⊥
            no h = cc
