-- How far names reach: more names reach further, and what starts no further reaches no further.
use Rattle.std.proofs.Common.{ℕ, List, arith}
use Rattle.std.proofs.lemmas.Bool.Decides.{nat_tests}
use Rattle.f2_format.specs.Packing.{Reach, IsNoFurther, IsSublist, none, kept, left_out, place_after, place_after_all}

-- a name after each of two reaches keeps their order
pub place_after-no_further : (near far : Reach) (name : List ℕ) → IsNoFurther near far → IsNoFurther (place_after near name) (place_after far name)
place_after-no_further near far name h = record { blocks = grind (arith, nat_tests); slots = grind (arith, nat_tests) }

-- a name reaches no less far than what stood before it
pub place_after-further : (near far : Reach) (name : List ℕ) → IsNoFurther near far → IsNoFurther near (place_after far name)
place_after-further near far name h = record { blocks = grind (arith, nat_tests); slots = grind (arith, nat_tests) }

-- a sublist from no further reaches no further
pub sublist_no_further : {few all : List (List ℕ)} (near far : Reach) → IsSublist few all → IsNoFurther near far → IsNoFurther (place_after_all near few) (place_after_all far all)
sublist_no_further near far none h = h
sublist_no_further near far (kept name rest) h = sublist_no_further (place_after near name) (place_after far name) rest (place_after-no_further near far name h)
sublist_no_further near far (left_out name rest) h = sublist_no_further near (place_after far name) rest (place_after-further near far name h)
