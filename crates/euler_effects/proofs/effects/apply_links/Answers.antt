use mathlib.Core.Path.{refl}
use Rattle.layout.specs.Layout.{next_of}
use Rattle.euler.specs.EdgeOperators.{kev_links, kef_links, kemr_links, jekv_links}
use Rattle.euler.specs.FaceOperators.{kfmrh_links, mfkrh_links, rmov_links}
use Rattle.euler_effects.specs.Chosen.{links_of, marks_at, marks_kvsf, marks_none}
use Rattle.euler_effects.proofs.effects.apply_links.Goals as goal

pub returns-in-1 : goal.returns-in-1
returns-in-1 c = marks_at _ _ _ _ 1 _ c.in-1.is c.make_solid.ensures

pub returns-in-2 : goal.returns-in-2
returns-in-2 c = marks_kvsf _ _ _ _ _ _ c.in-2.is c.item_at.ensures.0
    c.kill_solid.ensures

pub returns-in-3 : goal.returns-in-3
returns-in-3 c = marks_at _ _ _ _ 3 _ c.in-3.is c.make_vertex.ensures

pub returns-in-4 : goal.returns-in-4
returns-in-4 c = let z = c.item_at-in-4.ensures.0 in
    marks_at _ _ _ _ 4 _ c.in-4.is
    (links_of _ _ c.args.args.now 4
    (λ sh x a _ _ _ _ _ _. kev_links sh x a) c.kev_links.ensures z z z z z z z refl)

pub returns-in-5 : goal.returns-in-5
returns-in-5 c = marks_at _ _ _ _ 5 _ c.in-5.is c.make_face.ensures

pub returns-in-6 : goal.returns-in-6
returns-in-6 c = let z = c.item_at-in-6.ensures.0 in
    marks_at _ _ _ _ 6 _ c.in-6.is
    (links_of _ _ c.args.args.now 6
    (λ sh x a _ _ _ _ _ _. kef_links sh x a) c.kef_links.ensures z z z z z z z refl)

pub returns-in-7 : goal.returns-in-7
returns-in-7 c = let z = c.item_at-in-7.ensures.0 in
    marks_at _ _ _ _ 7 _ c.in-7.is
    (links_of _ _ c.args.args.now 7
    (λ sh x a b _ _ _ _ _. kemr_links sh x a b) c.kemr_links.ensures z
    c.item_at-in-7-2.ensures.0 z z z z z refl)

pub returns-in-8 : goal.returns-in-8
returns-in-8 c = marks_at _ _ _ _ 8 _ c.in-8.is c.join_ring.ensures

pub returns-in-9 : goal.returns-in-9
returns-in-9 c = let z = c.item_at-in-9.ensures.0 in
    marks_at _ _ _ _ 9 _ c.in-9.is
    (links_of _ _ c.args.args.now 9
    (λ sh x a b _ _ _ _ _. kfmrh_links sh x a b) c.kfmrh_links.ensures z
    c.item_at-in-9-2.ensures.0 z z z z z refl)

pub returns-in-10 : goal.returns-in-10
returns-in-10 c = let z = c.item_at-in-10.ensures.0 in
    marks_at _ _ _ _ 10 _ c.in-10.is
    (links_of _ _ c.args.args.now 10
    (λ sh x a b d _ _ _ _. mfkrh_links sh x a b d) c.mfkrh_links.ensures z
    c.item_at-in-10-2.ensures.0
    c.item_at-in-10-3.ensures.0 z z z z refl)

pub returns-in-11 : goal.returns-in-11
returns-in-11 c = marks_at _ _ _ _ 11 _ c.in-11.is c.split_edge.ensures

pub returns-in-12 : goal.returns-in-12
returns-in-12 c = let z = c.item_at-in-12.ensures.0 in
    marks_at _ _ _ _ 12 _ c.in-12.is
    (links_of _ _ c.args.args.now 12
    (λ sh x a _ _ _ _ _ _. jekv_links sh x a (next_of sh x a))
    c.join_edges.ensures z z z z z z z refl)

pub returns-in-13 : goal.returns-in-13
returns-in-13 c = let z = c.item_at-in-13.ensures.0 in
    marks_at _ _ _ _ 13 _ c.in-13.is
    (links_of _ _ c.args.args.now 13
    (λ sh x a b _ _ _ _ _. rmov_links sh x a b) c.rmov_links.ensures z
    c.item_at-in-13-2.ensures.0 z z z z z refl)

pub returns-in_default : goal.returns-in_default
returns-in_default c = marks_none _ _ _ _ c.in_default.in_default-own.rest
