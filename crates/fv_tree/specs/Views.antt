-- The meanings of contents and bodies, as views return them (PI specification, volume 3, sections 3.2.3 and 3.2.5).
use Rattle.fv_tree.specs.Meaning.{Leaf, Group, Nested, ContentMeaning, Plain, Sectioned, BodyMeaning}
use Rattle.fv_tree.specs.MeaningParts.{sections_from}
use Rattle.fv_tree.specs.declared.view.Body.{Body}
use Rattle.fv_tree.specs.declared.view.Body.TheVariants as bodies
use Rattle.fv_tree.specs.declared.view.Content.{Content}
use Rattle.fv_tree.specs.declared.view.Content.TheVariants as contents

-- the meaning of a `Body`
abbrev pub body_view : Body → BodyMeaning
body_view (bodies.Leaf b) = Leaf b.now
body_view (bodies.Group s) = Group (sections_from s.0) s.1
body_view (bodies.Nested v) = Nested v.now

-- the meaning of a `Content`
abbrev pub content_view : Content → ContentMeaning
content_view (contents.Plain b) = Plain b.now
content_view (contents.Stream s) = Sectioned (sections_from s.0) s.1
