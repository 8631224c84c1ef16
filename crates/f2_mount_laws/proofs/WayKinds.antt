-- What stands on the way to a page: indirect nodes, and the direct node last.
use Rattle.std.proofs.Common.{◌≡◌, ◌≢◌, ◌⊎◌, inl, inr, ℕ, ◌+◌, ◌*◌, ◌<◌, [], ◌∷◌, Contains, IsSome, is_some, refl, sym, ap, ◌∙◌, subst, arith}
use Rattle.std.specs.Prelude.{Option, Some, None}
use Rattle.f2_format.specs.Offsets.{direct_of, nodes_down_to, nodes_of_page}
use Rattle.f2_image.specs.Reached.{offset_below, nids_of_node}
use Rattle.f2_place_laws.proofs.Offsets.{names, names_behind, first_below, second_below, double_below, low_below}
use Rattle.f2_place_laws.proofs.Uppers.{upper_of, one_upper}
use Rattle.f2_place_laws.proofs.Ways as ways
use Rattle.f2_place_laws.proofs.Ways.{Way, way_of}
use Rattle.f2_mount_laws.proofs.Old.{direct_page}
use Rattle.f2_mount_laws.proofs.Needs.{above_is, none_in, first_or_later, nodes_are, above_one, above_first, above_second, above_double, node_slots}

-- an indirect node names others, a direct one is the page's own
pub data WayKind (page offset : ℕ) : Type 0 where
  names_some : IsSome (offset_below offset 0) → WayKind page offset
  is_direct : direct_of page ≡ Some offset → WayKind page offset

-- what holds of a node on the way holds of the page's direct node, and of the node above one of which it holds
module _ (page offset : ℕ) (P : ℕ → Type 0) (up : (lower : ℕ) → lower ≢ 0 → P lower → P (upper_of lower)) where
  -- a node on the way with its kind
  record IsOnWay : Type 0 where
    kind : WayKind page offset
    holds : ((d : ℕ) → direct_of page ≡ Some d → P d) → P offset

  of_direct : (d : ℕ) → direct_of page ≡ Some d → Contains (d ∷ []) offset → IsOnWay
  of_direct d has there = by_case (first_or_later d [] offset there)
    where
      by_case : (offset ≡ d) ⊎ Contains [] offset → IsOnWay
      by_case (inl e) = record { kind = is_direct (has ∙ ap Some (sym e)); holds = λ own. subst P (sym e) (own d has) }
      by_case (inr later) = absurd (none_in offset later)

  above : (upper slot lower : ℕ) → slot < nids_of_node upper → offset_below upper slot ≡ Some lower → P lower → P upper
  above upper slot lower small under own =
      let behind = names_behind upper slot lower (names upper slot lower small under) in
      subst P (sym (one_upper upper slot lower small under)) (up lower (λ none. omega (arith, behind, none)) own)

  of_two : (upper slot d : ℕ) → slot < nids_of_node upper → offset_below upper slot ≡ Some d → IsSome (offset_below upper 0) → direct_of page ≡ Some d → Contains (upper ∷ d ∷ []) offset → IsOnWay
  of_two upper slot d small under names_one has there = by_case (first_or_later upper (d ∷ []) offset there)
    where
      by_case : (offset ≡ upper) ⊎ Contains (d ∷ []) offset → IsOnWay
      by_case (inl e) = record { kind = names_some (subst (λ o. IsSome (offset_below o 0)) (sym e) names_one); holds = λ own. subst P (sym e) (above upper slot d small under (own d has)) }
      by_case (inr later) = of_direct d has later

  of_three : (x y : ℕ) → x < 1018 → y < 1018 → direct_of page ≡ Some (2042 + x * 1019 + 1 + y) → Contains (2041 ∷ (2042 + x * 1019) ∷ (2042 + x * 1019 + 1 + y) ∷ []) offset → IsOnWay
  of_three x y row place has there = by_case (first_or_later 2041 ((2042 + x * 1019) ∷ (2042 + x * 1019 + 1 + y) ∷ []) offset there)
    where
      middle : P (2042 + x * 1019 + 1 + y) → P (2042 + x * 1019)
      middle own = above (2042 + x * 1019) y (2042 + x * 1019 + 1 + y) (node_slots (2042 + x * 1019) y (λ z. omega arith) place) (low_below x y row) own

      by_case : (offset ≡ 2041) ⊎ Contains ((2042 + x * 1019) ∷ (2042 + x * 1019 + 1 + y) ∷ []) offset → IsOnWay
      by_case (inl e) = record {
        kind = names_some (subst (λ o. IsSome (offset_below o 0)) (sym e) (ap is_some (double_below 0)));
        holds = λ own. subst P (sym e) (above 2041 x (2042 + x * 1019) (node_slots 2041 x (λ z. omega arith) row) (double_below x) (middle (own (2042 + x * 1019 + 1 + y) has)));
      }
      by_case (inr later) =
          of_two (2042 + x * 1019) y (2042 + x * 1019 + 1 + y) (node_slots (2042 + x * 1019) y (λ z. omega arith) place) (low_below x y row) (ap is_some (low_below x 0 row)) has later

  by_way : Way page → Contains (nodes_of_page page) offset → IsOnWay
  by_way (ways.one k small direct slots) there = of_direct (1 + k) direct (subst (λ xs. Contains xs offset) (nodes_are page (1 + k) [] direct (above_one k small)) there)
  by_way (ways.first s small direct slots) there =
      of_two 3 s (4 + s) (node_slots 3 s (λ z. omega arith) small) (first_below s) (ap is_some (first_below 0)) direct (subst (λ xs. Contains xs offset) (nodes_are page (4 + s) (3 ∷ []) direct (above_first s small)) there)
  by_way (ways.second s small direct slots) there =
      of_two 1022 s (1023 + s) (node_slots 1022 s (λ z. omega arith) small) (second_below s) (ap is_some (second_below 0)) direct (subst (λ xs. Contains xs offset) (nodes_are page (1023 + s) (1022 ∷ []) direct (above_second s small)) there)
  by_way (ways.double x y row place direct slots) there =
      of_three x y row place direct (subst (λ xs. Contains xs offset) (nodes_are page (2042 + x * 1019 + 1 + y) (2041 ∷ (2042 + x * 1019) ∷ []) direct (above_double x y place)) there)

  on_way : Contains (nodes_of_page page) offset → IsOnWay
  on_way there = by_direct (direct_of page) refl
    where
      by_direct : (o : Option ℕ) → direct_of page ≡ o → IsOnWay
      by_direct None e = absurd (none_in offset (subst (λ (p : Option ℕ). Contains (nodes_down_to p) offset) e there))
      by_direct (Some d) e = let limits = direct_page page d e in by_way (way_of page limits.0 limits.1) there

  pub holds_on_way : Contains (nodes_of_page page) offset → ((d : ℕ) → direct_of page ≡ Some d → P d) → P offset
  holds_on_way there own = (on_way there).holds own

pub way_kind : (page offset : ℕ) → Contains (nodes_of_page page) offset → WayKind page offset
way_kind page offset there = (on_way page offset (λ lower. Unit {0}) (λ lower other own. own) there).kind

-- it is no inode
pub way_some : (page offset : ℕ) → Contains (nodes_of_page page) offset → offset ≢ 0
way_some page offset there none =
    let up = above_is page offset there in
    let behind = names_behind up.upper up.slot offset (names up.upper up.slot offset up.small up.names) in
    omega (arith, behind, none)

-- and the inode names others
pub inode_names : IsSome (offset_below 0 0)
unfolding offset_below
inode_names = refl
