-- What is known of the parts that are open at a place: what is around it, and which part binds there.
use Rattle.std.specs.Prelude.{ℕ, zero, suc, Bool, false, ◌||◌, if◌then◌else◌, List, [], ◌∷◌, Option, Some, None, slice_get}
use Rattle.es_outline.specs.declared.mark.Mark.{Mark}
use Rattle.es_outline.specs.declared.mark.Mark.TheVariants as mark
use Rattle.es_outline.specs.declared.mark.Part.{Part}
use Rattle.es_outline.specs.Outline.{Marks}
use Rattle.es_scope.specs.Occurrences as occurrences
use Rattle.es_scope.specs.Refused as refused
use Rattle.es_parts.specs.declared.frame.Frame.{Frame}
use Rattle.es_parts.specs.Around as around

abbrev pub is_pattern : Part → Bool
is_pattern = around.is_pattern

abbrev pub is_function : Part → Bool
is_function = refused.is_function

abbrev pub is_binder : Part → Bool
is_binder = occurrences.is_binder

-- outside of all parts
abbrev pub outermost : Frame
outermost = record { around = record { part = None; pattern = None; in_function = false }; binder = None }

abbrev pub innermost : List Frame → Frame
innermost [] = outermost
innermost (frame ∷ frames) = frame

-- what is known within a part that begins at the place
abbrev pub framed : Part → ℕ → Frame → Frame
framed which place outer = record {
  around = record {
    part = Some place;
    pattern = if is_pattern which then Some place else outer.around.pattern;
    in_function = is_function which || outer.around.in_function;
  };
  binder = if is_binder which then Some place else outer.binder;
}

abbrev pub entered : Part → ℕ → List Frame → List Frame
entered which place frames = framed which place (innermost frames) ∷ frames

abbrev pub left : List Frame → List Frame
left [] = []
left (frame ∷ frames) = frames

abbrev pub behind : Mark → ℕ → List Frame → List Frame
behind (mark.Begin which) place frames = entered which place frames
behind (mark.End which) place frames = left frames
behind _ place frames = frames

abbrev pub behind_any : Option Mark → ℕ → List Frame → List Frame
behind_any (Some one_mark) place frames = behind one_mark place frames
behind_any None place frames = frames

-- of the parts that are open at the place, the innermost first
unfoldable pub frames_at : Marks → ℕ → List Frame
frames_at marks zero = []
frames_at marks (suc place) = behind_any (slice_get marks place) place (frames_at marks place)

abbrev pub frame_at : Marks → ℕ → Frame
frame_at marks place = innermost (frames_at marks place)
