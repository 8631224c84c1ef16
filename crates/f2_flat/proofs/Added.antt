-- What a create comes to, step by step.
use Rattle.std.proofs.Common.{◌≡◌, inl, inr, ℕ, ◌+◌, ◌≤◌, ◌<◌, List, sym, ap, ◌∙◌, subst}
use Rattle.std.specs.Prelude.{◌⊎◌, Option, Some, None, Result, Ok, IfErr}
use Rattle.std.specs.Result.{IsErrAnd}
use Rattle.std.specs.FinMap as map
use Rattle.f2_format.specs.Geometry.{ImageGeometry, IsGeometry, node_third, data_third}
use Rattle.f2_model.specs.Tree.{Rows, ROOT, last_name}
use Rattle.f2_model.specs.Count.{data_of_tree}
use Rattle.f2_model.specs.Call.{refusal}
use Rattle.f2_model.specs.declared.requests.Request.{Request}
use Rattle.f2_model.specs.declared.requests.Request.TheVariants.{Create}
use Rattle.f2_model.specs.declared.replies.Reply.{Reply}
use Rattle.f2_model.specs.declared.replies.Reply.TheVariants.{Memory}
use Rattle.f2_model.specs.declared.replies.Space.TheVariants.{Node, Data}
use Rattle.f2_flat.specs.Flat.{IsFlat, limits_of}
use Rattle.f2_flat.specs.Calls.{IsAdded, IsRefused}
use Rattle.f2_flat.specs.Kept.{HasRootFiles}
use Rattle.f2_flat.specs.Steps.{MakesPlace, told_beyond, with_file}
use Rattle.f2_flat.proofs.Grown.{next_free, files_grown, nodes_spent, space_told, flat_grown, added}
use Rattle.f2_flat.proofs.Told.{told_some, some_past, none_within, passed_on}

-- a call is refused by its path, the tree and its numbers
pub refused_at_once : {X : Type 0} (geom : ImageGeometry) (inside tree : Rows) (request : Request) (result : Result X Reply) (came : Reply) → inside ≡ tree → IsErrAnd result (λ e. e ≡ came)
    → refusal (limits_of geom) inside request ≡ Some came → IfErr result (λ refused. (refused ≡ Memory) ⊎ IsRefused geom tree request refused)
refused_at_once geom inside tree request result came inside_is is out =
    passed_on result came (λ refused. (refused ≡ Memory) ⊎ IsRefused geom tree request refused) is (inr (inl (subst (λ t. refusal (limits_of geom) t request ≡ Some came) inside_is out)))

module _ (geom : ImageGeometry) (geometry : IsGeometry geom) (tree : Rows) (flat : IsFlat geom tree) (path : List (List ℕ)) (name : List ℕ) (place : MakesPlace geom tree path (Ok name)) (rows nodes : ℕ) (rows_is : rows ≡ map.len tree) (nodes_is : nodes ≡ node_third geom) where
  -- no node is left
  pub node_out : (refused : Reply) → Some refused ≡ told_beyond Node (rows + 1) nodes → IsRefused geom tree (Create path) refused
  node_out refused told =
      let same : told_beyond Node (rows + 1) nodes ≡ told_beyond Node (map.len tree + 1) (node_third geom) = λ i. told_beyond Node (rows_is i + 1) (nodes_is i) in
      let full : node_third geom < map.len tree + 1 = some_past Node (map.len tree + 1) (node_third geom) refused (told ∙ same) in
      inr (place.0, nodes_spent geom geometry tree flat path place.0 full ∙ sym (told_some Node (map.len tree + 1) (node_third geom) full) ∙ sym same ∙ sym told)

  abbrev grew : Rows
  grew = with_file tree (rows + ROOT) name

  grew_is : grew ≡ with_file tree (map.len tree + ROOT) (last_name path)
  grew_is = λ i. with_file tree (rows_is i + ROOT) (place.1 i)

  pub next_is_free : map.get tree (rows + ROOT) ≡ None
  next_is_free = ap (λ n. map.get tree (n + ROOT)) rows_is ∙ next_free geom geometry tree flat

  pub files_more : HasRootFiles grew
  files_more = subst HasRootFiles (sym grew_is) (files_grown geom geometry tree flat path place.0 (map.len tree + ROOT) (next_free geom geometry tree flat))

  module _ (room : told_beyond Node (rows + 1) nodes ≡ None) (blocks : ℕ) (blocks_is : blocks ≡ data_third geom) (told : Option Reply) (told_is : told ≡ told_beyond Data (data_of_tree grew) blocks) where
    fits : map.len tree + 1 ≤ node_third geom
    fits = none_within Node (map.len tree + 1) (node_third geom) ((λ i. told_beyond Node (sym rows_is i + 1) (sym nodes_is i)) ∙ room)

    due : told_beyond Data (data_of_tree (with_file tree (map.len tree + ROOT) (last_name path))) (data_third geom) ≡ told
    due = (λ i. told_beyond Data (data_of_tree (sym grew_is i)) (sym blocks_is i)) ∙ sym told_is

    -- no data block is left
    pub data_out : (refused : Reply) → told ≡ Some refused → IsRefused geom tree (Create path) refused
    data_out refused some = inr (place.0, space_told geom geometry tree flat path place.0 fits ∙ due ∙ some)

    pub row_out : {X : Type 0} (result : Result X Reply) (came : Reply) → IsErrAnd result (λ e. e ≡ came) → (came ≡ Memory) ⊎ (told ≡ Some came)
        → IfErr result (λ refused. (refused ≡ Memory) ⊎ IsRefused geom tree (Create path) refused)
    row_out result came is why = passed_on result came (λ refused. (refused ≡ Memory) ⊎ IsRefused geom tree (Create path) refused) is (elim why [
      | inl memory ↦ inl memory
      | inr some ↦ inr (data_out came some)
    ])

    pub row_added : (new : Rows) → told ≡ None → new ≡ grew → IsAdded geom tree new path (rows + ROOT)
    row_added new none is = added geom geometry tree flat path place.0 fits (due ∙ none) new (rows + ROOT) (ap (λ n. n + ROOT) rows_is) (is ∙ grew_is)

    pub flat_added : (new : Rows) → told ≡ None → new ≡ grew → IsFlat geom new
    flat_added new none is = subst (IsFlat geom) (sym (is ∙ grew_is)) (flat_grown geom geometry tree flat path place.0 fits (due ∙ none))
