use Rattle.std.proofs.Common.{◌++◌, ◌∷◌, [], get_or, sym, subst, ◌∙◌}
use Rattle.f2_format.specs.Offsets.{nodes_over}
use Rattle.f2_call_size.specs.Beyond.{IsBeyond, noted, Numbers}
use Rattle.f2_call_size.proofs.Noting.{way_noted}
use Rattle.f2_call_size.proofs.nodes.note_page.Goals as goal

pub returns : goal.returns
returns c = λ own more near beyond.
    let found : Numbers = c.args.found.now in
    let n = c.way_to-nodes.ensures in
    let l = c.way_to-left.ensures in
    let r = c.way_to-right.ensures in
    let one = c.in_ok-note.ensures ∙ (λ i. noted found (get_or (n i) 1 0) (get_or (l i) 1 0) (get_or (r i) 1 0)) in
    let two = c.in_ok-note-2.ensures ∙ (λ i. noted (one i) (get_or (n i) 2 0) (get_or (l i) 2 0) (get_or (r i) 2 0)) in
    let three = c.in_ok-note-3.ensures ∙ (λ i. noted (two i) (get_or (n i) 3 0) (get_or (l i) 3 0) (get_or (r i) 3 0)) in
    subst (λ (now : Numbers). IsBeyond (nodes_over own) now (nodes_over (own ++ (more ++ c.args.page ∷ [])))) (sym three) (way_noted found c.args.page c.args.before c.args.after own more near beyond)
