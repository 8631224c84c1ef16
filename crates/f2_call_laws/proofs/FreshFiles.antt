-- Of a file that neither the base nor the node log has, and whose ino no node of theirs has as its nid, recovery would read no address.
use Rattle.std.proofs.Common.{[], ◌≡◌, ◌≢◌, ℕ, zero, suc, ◌<◌, ◌≤◌, ◌==◌, ◌&&◌, Bool, true, false, if◌then◌else◌, List, length, is_some, IsSome, refl, sym, ap, ◌∙◌, arith, true≢false}
use Rattle.std.specs.Prelude.{Option, Some, None}
use Rattle.std.specs.FinMap as map
use Rattle.std.specs.FinSet as set
use Rattle.std.proofs.lemmas.Bool.{eqb-true}
use native.Mathlib.Decide.{ℕ_discrete}
use Rattle.f2_format.specs.Footer.{footer_ino, footer_offset}
use Rattle.f2_format.specs.Geometry.{nid_limit}
use Rattle.f2_format.specs.Offsets.{direct_slot}
use Rattle.f2_model.specs.Tree.{Rows}
use Rattle.f2_model.specs.State.{State}
use Rattle.f2_image.specs.Nodes.{node_address, block_there, node, word_of}
use Rattle.f2_image.specs.Chains.{Logged, block_in, last_before, or_below, base_direct}
use Rattle.f2_image.specs.Reached.{IsNode}
use Rattle.f2_image.specs.Meanings.{MeansAt}
use Rattle.f2_stored.specs.Layout.{Layout, chained}
use Rattle.f2_stored.specs.Numbers.{HasNids}
use Rattle.f2_stored.specs.Ties.{told_address}
use Rattle.f2_place_laws.proofs.NamedNodes.{node_reached, in_base}
use Rattle.f2_place_laws.proofs.SoundNodes.{IsGiven, place, key, in_table, known}

-- a log that has no block of a file has no node of it
no_node_before : (log : List Logged) (most ino offset : ℕ) → most ≤ length log → ((place : ℕ) → place < length log → footer_ino (block_in log place) ≢ ino) → last_before log most ino offset ≡ None
no_node_before log zero ino offset small none = refl
no_node_before log (suc place) ino offset small none =
    ap (λ b. if b then Some (block_in log place) else last_before log place ino offset) (by_test (footer_ino (block_in log place) == ino) refl)
    ∙ no_node_before log place ino offset (omega (arith, small)) none
  where
    by_test : (b : Bool) → (footer_ino (block_in log place) == ino) ≡ b → (b && (footer_offset (block_in log place) == offset)) ≡ false
    by_test true e = absurd (none place (omega (arith, small)) (eqb-true (footer_ino (block_in log place)) ino e))
    by_test false e = refl

module _ (layout : Layout) (base : Rows) (means : MeansAt layout.base.image layout.base.ckpt base []) (nids : HasNids layout) (ino : ℕ) (no_row : map.get base ino ≡ None)
    (own : (other : ℕ × ℕ) → map.get layout.nids other ≡ Some ino → other ≡ (ino, 0)) where
  -- no node of the base has the ino as its nid
  no_node : (file offset : ℕ) → ¬ (IsNode layout.base.image layout.base.ckpt file offset ino)
  no_node file offset is =
      let same = own (file, offset) (nids.base file offset ino is) in
      let there : IsSome (map.get base file) = in_base layout.base.image layout.base.ckpt base means.is_base file (node_reached layout.base.image layout.base.ckpt file offset ino is) in
      true≢false (sym there ∙ ap (λ (p : ℕ × ℕ). is_some (map.get base p.0)) same ∙ ap is_some no_row)

  -- so it has no address
  no_address : node_address layout.base.image layout.base.ckpt ino ≡ 0
  no_address = by_number (ℕ_discrete (node_address layout.base.image layout.base.ckpt ino) 0)
    where
      by_number : Dec (node_address layout.base.image layout.base.ckpt ino ≡ 0) → node_address layout.base.image layout.base.ckpt ino ≡ 0
      by_number (yes none) = none
      by_number (no some) =
          let parts = in_table ino (nid_limit layout.base.ckpt.geom) (place layout.base.image layout.base.ckpt ino) some in
          let given : IsGiven layout.base.image layout.base.ckpt ino = record { within = parts.1; some = λ zero. some (parts.2 ∙ zero) } in
          absurd (known layout.base.image layout.base.ckpt means.sound ino given (no_node (key layout.base.image layout.base.ckpt ino).0 (key layout.base.image layout.base.ckpt ino).1))

  no_inode : node layout.base.image layout.base.ckpt ino ≡ None
  no_inode = ap (block_there layout.base.image) no_address

  pub nothing_told : (state : State) → ((at : ℕ) → at < length (chained layout) → set.contains state.logged (footer_ino (block_in (chained layout) at)) ≡ true) → set.contains state.logged ino ≡ false
      → (offset page : ℕ) → told_address layout ino offset page ≡ 0
  nothing_told state logged not_logged offset page =
      let log : last_before (chained layout) (length (chained layout)) ino offset ≡ None =
      no_node_before (chained layout) (length (chained layout)) ino offset (omega arith) (λ at small same. true≢false (sym (logged at small) ∙ ap (set.contains state.logged) same ∙ not_logged)) in
      ap (λ (o : Option (List ℕ)). word_of (or_below o (base_direct layout.base.image layout.base.ckpt (node layout.base.image layout.base.ckpt ino) page)) (direct_slot page)) log
      ∙ ap (λ (o : Option (List ℕ)). word_of (base_direct layout.base.image layout.base.ckpt o page) (direct_slot page)) no_inode
