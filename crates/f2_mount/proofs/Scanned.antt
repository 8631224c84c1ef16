-- The node log from where a checkpoint says, as the chain of its image.
use Rattle.std.proofs.Common.{◌≡◌, ℕ, ◌<◌, ◌^◌, List, refl, sym, ap, ◌∙◌, subst, arith}
use Rattle.std.specs.Prelude.{Option, IfSome}
use Rattle.f2_disk.specs.Contents.{Contents, latest}
use Rattle.f2_format.specs.Geometry.{ImageGeometry, IsGeometry, node_third}
use Rattle.f2_format.specs.Pack.{HeadFields, recovery_version_of}
use Rattle.f2_pack.specs.Packs.{fields_of}
use Rattle.f2_image.specs.Images.{Image}
use Rattle.f2_image.specs.Packs.{Checkpoint, recovery_version}
use Rattle.f2_image.specs.Chains.{Logged, chain}
use Rattle.f2_recover.specs.Told.{Tells}
use Rattle.f2_scan.specs.Logs.{IsFault, IsRightLog, log_from}
use Rattle.f2_scan.specs.Laws.{HasNoLogFault, log_of}
use Rattle.f2_scan.specs.declared.faults.ScanFault.{ScanFault}
use Rattle.f2_scan.proofs.Rights.{none_stands}
use Rattle.f2_start.specs.Starts.{IsStartOf}
use Rattle.f2_start.specs.declared.reading.Start.{Start}

-- a third of a node zone is small
pub small_third : (geom : ImageGeometry) → IsGeometry geom → node_third geom < 2 ^ 31
small_third geom sizes = let most = sizes.most_blocks in omega (arith, most)

chain_is : (image : Image) (ckpt : Checkpoint) → log_of image ckpt ≡ chain image ckpt
unfolding chain
chain_is image ckpt = refl

module _ (held : Option Contents) (start : Start) (image : Image) (ckpt : Checkpoint) (version : ℕ) (tells : Tells held image) (is : IsStartOf start ckpt)
    (carried : version ≡ recovery_version_of (fields_of start.pack.head start.geometry.nat)) where
  same_log : log_from start.geometry (latest tells.0) version start.pack.head.log_start ≡ chain image ckpt
  same_log =
      ap (λ (e : ImageGeometry). log_from e (latest tells.0) version start.pack.head.log_start) (sym is.geom_is)
      ∙ ap (λ (i : Image). log_from ckpt.geom i version start.pack.head.log_start) (sym tells.2)
      ∙ ap (λ (v : ℕ). log_from ckpt.geom image v start.pack.head.log_start) (carried ∙ ap recovery_version_of (sym is.head_is))
      ∙ ap (λ (n : ℕ). log_from ckpt.geom image (recovery_version ckpt) n) (ap (λ (f : HeadFields). f.log_start) (sym is.head_is))
      ∙ chain_is image ckpt

  -- what is said of the log that was scanned is said of the chain
  of_chain : (P : ImageGeometry → List Logged → Type 0) → IfSome held (λ lists. P start.geometry (log_from start.geometry (latest lists) version start.pack.head.log_start)) → P ckpt.geom (chain image ckpt)
  of_chain P said =
      subst (λ (l : List Logged). P ckpt.geom l) same_log
      (subst (λ (e : ImageGeometry). P e (log_from start.geometry (latest tells.0) version start.pack.head.log_start)) (sym is.geom_is)
      (subst (λ (o : Option Contents). IfSome o (λ lists. P start.geometry (log_from start.geometry (latest lists) version start.pack.head.log_start))) tells.1 said))

  pub is_chain : (log : List Logged) → IfSome held (λ lists. log ≡ log_from start.geometry (latest lists) version start.pack.head.log_start) → log ≡ chain image ckpt
  is_chain log said = of_chain (λ _ l. log ≡ l) said

  pub no_fault : (log : List Logged) → IfSome held (λ lists. log ≡ log_from start.geometry (latest lists) version start.pack.head.log_start) → IsRightLog start.geometry log → HasNoLogFault image ckpt
  no_fault log said right =
      none_stands image ckpt
      (subst (λ (e : ImageGeometry). IsRightLog e (chain image ckpt)) (sym is.geom_is) (subst (λ (l : List Logged). IsRightLog start.geometry l) (is_chain log said) right))

  pub has_fault : (fault : ScanFault) → IfSome held (λ lists. IsFault start.geometry (log_from start.geometry (latest lists) version start.pack.head.log_start) fault) → IsFault ckpt.geom (chain image ckpt) fault
  has_fault fault said = of_chain (λ e l. IsFault e l fault) said
