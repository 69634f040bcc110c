-- The number and the place of each refusal of a builder's call.
use Rattle.text.specs.declared.refusals.Refusal.{Refusal}
use Rattle.text.specs.Faults.{text_refusal}
use Rattle.builders.specs.declared.builds.BuildFault.{BuildFault}
use Rattle.builders.specs.declared.builds.BuildFault.TheVariants as build
use Rattle.builders.specs.declared.faults.BuilderFault.{BuilderFault}
use Rattle.builders.specs.declared.faults.BuilderFault.TheVariants.{Full, Deep, Outermost, Untagged, LongTag, Unlawful, Missing}

abbrev pub builder_refusal : BuilderFault → Refusal
-- 4, slice full or 65,536 nodes: at the node count
builder_refusal (Full count) = record { number = 4; place = count }
-- 5, `open` at depth 255: at the depth
builder_refusal (Deep depth) = record { number = 5; place = depth }
-- 6, `close` at depth 0: at the node count
builder_refusal (Outermost count) = record { number = 6; place = count }
-- 7, nothing to tag: at the node count
builder_refusal (Untagged count) = record { number = 7; place = count }
-- 8, tag over 255 bytes: at the tag's place
builder_refusal (LongTag place) = record { number = 8; place = place }
-- 10, list not lawful: at the node; node missing: at the node count
builder_refusal (Unlawful node) = record { number = 10; place = node }
builder_refusal (Missing count) = record { number = 10; place = count }

-- 1 and 2 as the text's
abbrev pub build_refusal : BuildFault → Refusal
build_refusal (build.Text fault) = text_refusal fault
-- 3, labels over the limit: at their length
build_refusal (build.Labels length) = record { number = 3; place = length }
-- 4, over 65,536 nodes: at their count
build_refusal (build.Many count) = record { number = 4; place = count }
-- 8, first tag outside the labels or over 255 bytes: at its place
build_refusal (build.Tag place) = record { number = 8; place = place }
-- 9, above depth 0: at the depth
build_refusal (build.Open depth) = record { number = 9; place = depth }
-- 10, list not lawful: at the node
build_refusal (build.Unlawful node) = record { number = 10; place = node }
-- 11, first unsound span: at the node
build_refusal (build.Span fault) = record { number = 11; place = fault.node }
-- 12, buffer too short: at the tokens needed
build_refusal (build.Short needed) = record { number = 12; place = needed }
