-- How types stand in a graph: as themselves, or packed, with each relation type as one from the tuple of its inputs to the tuple
-- of its outputs. Packed, a relation type whose counts are open is one over two nodes without forms.
use Rattle.std.specs.Prelude.{List, [], ◌∷◌}
use Rattle.rml_types.specs.declared.tree.SchemeTree.{SchemeTree, out-SchemeTree, fold-SchemeTree}
use Rattle.rml_types.specs.declared.tree.SchemeTree.TheOpen.{SchemeTree-F}
use Rattle.rml_types.specs.declared.tree.SchemeTree.TheVariants as tree
use Rattle.rml_equations.specs.declared.coding.Coding.{Coding}
use Rattle.rml_equations.specs.declared.coding.Coding.TheVariants.{Plain, Packed}

abbrev pub packed_at : SchemeTree-F SchemeTree → SchemeTree
packed_at (SchemeTree-F.Var k) = tree.Var k
packed_at (SchemeTree-F.Named c ts) = tree.Named c ts
packed_at (SchemeTree-F.Tuple ts) = tree.Tuple ts
packed_at (SchemeTree-F.Rel ins outs) = tree.Rel (tree.Tuple ins ∷ []) (tree.Tuple outs ∷ [])

abbrev pub packed : SchemeTree → SchemeTree
packed = fold-SchemeTree SchemeTree packed_at

-- the parts of a tuple; no other type has any
abbrev pub parts_at : SchemeTree-F SchemeTree → List SchemeTree
parts_at (SchemeTree-F.Tuple ts) = ts
parts_at _ = []

-- the parts of the one type of a list
abbrev pub parts_of : List SchemeTree → List SchemeTree
parts_of (t ∷ []) = parts_at (out-SchemeTree t)
parts_of _ = []

abbrev pub unpacked_at : SchemeTree-F SchemeTree → SchemeTree
unpacked_at (SchemeTree-F.Var k) = tree.Var k
unpacked_at (SchemeTree-F.Named c ts) = tree.Named c ts
unpacked_at (SchemeTree-F.Tuple ts) = tree.Tuple ts
unpacked_at (SchemeTree-F.Rel ins outs) = tree.Rel (parts_of ins) (parts_of outs)

abbrev pub unpacked : SchemeTree → SchemeTree
unpacked = fold-SchemeTree SchemeTree unpacked_at

-- a type as it stands in a graph
abbrev pub coded : Coding → SchemeTree → SchemeTree
coded Plain t = t
coded Packed t = packed t

-- the type that stands there
abbrev pub decoded : Coding → SchemeTree → SchemeTree
decoded Plain t = t
decoded Packed t = unpacked t

-- a relation type of types as they stand
abbrev pub relation_as : Coding → List SchemeTree → List SchemeTree → SchemeTree
relation_as Plain ins outs = tree.Rel ins outs
relation_as Packed ins outs = tree.Rel (tree.Tuple ins ∷ []) (tree.Tuple outs ∷ [])
