-- Worked pictures: two reservations, by ticks, and two groups with a clock each, by entries.
use Rattle.std.specs.Prelude.{◌≡◌, [], ◌∷◌, ◌++◌, codes, refl}
use Rattle.std.specs.Fmt.{digits}
use Rattle.rt_model.specs.worked.Computed.{computed}
use Rattle.rt_model.specs.worked.Samples.{entries_of}
use Rattle.trace_views.specs.worked.Computed.{shown}
use Rattle.chart_texts.specs.declared.window.Axis.TheVariants.{Entries, Ticks}
use Rattle.chart_texts.specs.worked.Computed.{charted}
use Rattle.chart_texts.specs.worked.Groups.{apart, island_lines, land_lines, served, served_lines}
use Rattle.svg_texts.specs.worked.Computed.{pictured}
use Rattle.svg_texts.specs.Legend.{legend}
use Rattle.svg_texts.specs.Shapes.{end, line, rect, release, words}
use Rattle.svg_texts.specs.SvgText.{head, whole_svg}

pub served_ticks : whole_svg Ticks served.setup (entries_of served_lines ∷ []) ≡
    head 1010 636 ++ (
    words (codes "h") 20 26 (codes "P-RES, ticks 0 to 8 of 8") ++ (
    words (codes "h") 20 56 (codes "group 0") ++ (
    words (codes "n e") 96 90 (codes "tick") ++ (
    line (codes "G") 108 96 0 272 ++ (
    words (codes "n m") 108 90 (codes "0") ++ (
    line (codes "g") 128 96 0 272 ++ (
    words (codes "n m") 128 90 (codes "1") ++ (
    line (codes "g") 148 96 0 272 ++ (
    words (codes "n m") 148 90 (codes "2") ++ (
    line (codes "g") 168 96 0 272 ++ (
    words (codes "n m") 168 90 (codes "3") ++ (
    line (codes "g") 188 96 0 272 ++ (
    words (codes "n m") 188 90 (codes "4") ++ (
    line (codes "G") 208 96 0 272 ++ (
    words (codes "n m") 208 90 (codes "5") ++ (
    line (codes "g") 228 96 0 272 ++ (
    words (codes "n m") 228 90 (codes "6") ++ (
    line (codes "g") 248 96 0 272 ++ (
    words (codes "n m") 248 90 (codes "7") ++ (
    line (codes "g") 268 96 0 272 ++ (
    words (codes "e") 100 128 (codes "1 mail") ++ (
    rect (codes "c0") 128 112 20 22 ++ (
    words (codes "m") 138 124 (codes "0") ++ (
    rect (codes "y") 148 122 20 3 ++ (
    rect (codes "c0") 248 112 20 22 ++ (
    rect (codes "o") 251 115 14 16 ++ (
    words (codes "m") 258 124 (codes "0") ++ (
    line (codes "b") 108 134 160 0 ++ (
    release 128 134 ++ (
    end 168 134 ++ (
    release 248 134 ++ (
    words (codes "e") 100 180 (codes "2 print") ++ (
    rect (codes "c1") 188 164 20 22 ++ (
    words (codes "m") 198 176 (codes "0") ++ (
    rect (codes "y") 208 174 20 3 ++ (
    rect (codes "c1") 228 164 20 22 ++ (
    words (codes "m") 238 176 (codes "0") ++ (
    rect (codes "y") 248 174 20 3 ++ (
    line (codes "b") 108 186 160 0 ++ (
    release 188 186 ++ (
    end 268 186 ++ (
    words (codes "e") 100 232 (codes "3 batch") ++ (
    rect (codes "c2") 108 216 20 22 ++ (
    rect (codes "o") 111 219 14 16 ++ (
    words (codes "m") 118 228 (codes "0") ++ (
    rect (codes "y") 128 226 20 3 ++ (
    rect (codes "c2") 148 216 40 22 ++ (
    rect (codes "o") 151 219 34 16 ++ (
    words (codes "m") 168 228 (codes "0") ++ (
    rect (codes "y") 188 226 20 3 ++ (
    rect (codes "c2") 208 216 20 22 ++ (
    rect (codes "o") 211 219 14 16 ++ (
    words (codes "m") 218 228 (codes "0") ++ (
    rect (codes "y") 228 226 40 3 ++ (
    line (codes "b") 108 238 160 0 ++ (
    release 108 238 ++ (
    words (codes "e") 100 277 (codes "processor 0") ++ (
    rect (codes "c2") 108 264 20 18 ++ (
    rect (codes "o") 111 267 14 12 ++ (
    words (codes "m") 118 276 (codes "3") ++ (
    rect (codes "c0") 128 264 20 18 ++ (
    words (codes "m") 138 276 (codes "1") ++ (
    rect (codes "c2") 148 264 40 18 ++ (
    rect (codes "o") 151 267 34 12 ++ (
    words (codes "m") 168 276 (codes "batch") ++ (
    rect (codes "c1") 188 264 20 18 ++ (
    words (codes "m") 198 276 (codes "2") ++ (
    rect (codes "c2") 208 264 20 18 ++ (
    rect (codes "o") 211 267 14 12 ++ (
    words (codes "m") 218 276 (codes "3") ++ (
    rect (codes "c1") 228 264 20 18 ++ (
    words (codes "m") 238 276 (codes "2") ++ (
    rect (codes "c0") 248 264 20 18 ++ (
    rect (codes "o") 251 267 14 12 ++ (
    words (codes "m") 258 276 (codes "1") ++ (
    rect (codes "c2") 108 284 20 4 ++ (
    rect (codes "c0") 128 284 20 4 ++ (
    rect (codes "c2") 148 284 40 4 ++ (
    rect (codes "c1") 188 284 20 4 ++ (
    rect (codes "c2") 208 284 20 4 ++ (
    rect (codes "c1") 228 284 20 4 ++ (
    rect (codes "c0") 248 284 20 4 ++ (
    line (codes "b") 108 282 160 0 ++ (
    words (codes "e") 100 318 (codes "server") ++ (
    rect (codes "c0") 128 302 20 20 ++ (
    words (codes "m") 138 320 (codes "2") ++ (
    rect (codes "c0") 148 312 60 10 ++ (
    words (codes "m") 178 320 (codes "1") ++ (
    rect (codes "c0") 228 302 20 20 ++ (
    words (codes "m") 238 320 (codes "2") ++ (
    rect (codes "c0") 248 312 20 10 ++ (
    words (codes "m") 258 320 (codes "1") ++ (
    line (codes "b") 108 322 160 0 ++ (
    words (codes "e") 100 354 (codes "rest") ++ (
    rect (codes "c0") 108 338 160 20 ++ (
    words (codes "m") 188 356 (codes "10") ++ (
    line (codes "b") 108 358 160 0 ++ (
    legend 384 ++ codes "</svg>\n"))))))))))))))))))))))))))))))))))))))))))))))))))))))))))))))))))))))))))))))))))))))))))))))))))
unfolding computed shown charted pictured digits
served_ticks = refl

pub apart_entries : whole_svg Entries apart.setup (entries_of land_lines ∷ entries_of island_lines ∷ []) ≡
    head 1010 716 ++ (
    words (codes "h") 20 26 (codes "PSN-EDF, entries 0 to 7 of 7") ++ (
    words (codes "h") 20 56 (codes "group 0") ++ (
    words (codes "n e") 96 76 (codes "clock") ++ (
    words (codes "n e") 96 90 (codes "entry") ++ (
    line (codes "G") 108 96 0 184 ++ (
    words (codes "n m") 118 90 (codes "0") ++ (
    words (codes "n") 108 76 (codes "0") ++ (
    line (codes "g") 128 96 0 184 ++ (
    words (codes "n m") 138 90 (codes "1") ++ (
    words (codes "n") 128 76 (codes "3") ++ (
    line (codes "g") 148 96 0 184 ++ (
    words (codes "n m") 158 90 (codes "2") ++ (
    line (codes "g") 168 96 0 184 ++ (
    words (codes "n m") 178 90 (codes "3") ++ (
    line (codes "g") 188 96 0 184 ++ (
    words (codes "n m") 198 90 (codes "4") ++ (
    line (codes "G") 208 96 0 184 ++ (
    words (codes "n m") 218 90 (codes "5") ++ (
    words (codes "n") 208 76 (codes "4") ++ (
    line (codes "g") 228 96 0 184 ++ (
    words (codes "n m") 238 90 (codes "6") ++ (
    words (codes "n") 228 76 (codes "5") ++ (
    line (codes "g") 248 96 0 184 ++ (
    words (codes "e") 100 128 (codes "1 north") ++ (
    rect (codes "c0") 108 112 20 22 ++ (
    rect (codes "o") 111 115 14 16 ++ (
    words (codes "m") 118 124 (codes "0") ++ (
    rect (codes "c0") 128 112 20 22 ++ (
    words (codes "m") 138 124 (codes "0") ++ (
    rect (codes "c0") 148 112 60 22 ++ (
    rect (codes "o") 151 115 54 16 ++ (
    words (codes "m") 178 124 (codes "0") ++ (
    rect (codes "y") 208 122 20 3 ++ (
    line (codes "b") 108 134 140 0 ++ (
    release 108 134 ++ (
    end 228 134 ++ (
    words (codes "e") 100 180 (codes "2 south") ++ (
    rect (codes "y") 128 174 20 3 ++ (
    rect (codes "c1") 148 164 20 22 ++ (
    rect (codes "o") 151 167 14 16 ++ (
    words (codes "m") 158 176 (codes "1") ++ (
    rect (codes "c1") 168 164 20 22 ++ (
    words (codes "m") 178 176 (codes "1") ++ (
    rect (codes "c1") 188 164 40 22 ++ (
    rect (codes "o") 191 167 34 16 ++ (
    words (codes "m") 208 176 (codes "1") ++ (
    rect (codes "y") 228 174 20 3 ++ (
    line (codes "b") 108 186 140 0 ++ (
    release 128 186 ++ (
    end 248 186 ++ (
    words (codes "e") 100 225 (codes "processor 0") ++ (
    rect (codes "c0") 108 212 20 18 ++ (
    rect (codes "o") 111 215 14 12 ++ (
    words (codes "m") 118 224 (codes "1") ++ (
    rect (codes "c0") 128 212 20 18 ++ (
    words (codes "m") 138 224 (codes "1") ++ (
    rect (codes "c0") 148 212 60 18 ++ (
    rect (codes "o") 151 215 54 12 ++ (
    words (codes "m") 178 224 (codes "north") ++ (
    rect (codes "c0") 108 232 100 4 ++ (
    line (codes "b") 108 230 140 0 ++ (
    words (codes "e") 100 261 (codes "processor 1") ++ (
    rect (codes "c1") 148 248 20 18 ++ (
    rect (codes "o") 151 251 14 12 ++ (
    words (codes "m") 158 260 (codes "2") ++ (
    rect (codes "c1") 168 248 20 18 ++ (
    words (codes "m") 178 260 (codes "2") ++ (
    rect (codes "c1") 188 248 40 18 ++ (
    rect (codes "o") 191 251 34 12 ++ (
    words (codes "m") 208 260 (codes "south") ++ (
    rect (codes "c1") 128 268 100 4 ++ (
    line (codes "b") 108 266 140 0 ++ (
    words (codes "h") 20 312 (codes "group 1") ++ (
    words (codes "n e") 96 332 (codes "clock") ++ (
    words (codes "n e") 96 346 (codes "entry") ++ (
    line (codes "G") 108 352 0 96 ++ (
    words (codes "n m") 118 346 (codes "0") ++ (
    words (codes "n") 108 332 (codes "0") ++ (
    line (codes "g") 128 352 0 96 ++ (
    words (codes "n m") 138 346 (codes "1") ++ (
    words (codes "n") 128 332 (codes "2") ++ (
    line (codes "g") 148 352 0 96 ++ (
    words (codes "n m") 158 346 (codes "2") ++ (
    words (codes "n") 148 332 (codes "3") ++ (
    line (codes "g") 168 352 0 96 ++ (
    words (codes "n m") 178 346 (codes "3") ++ (
    line (codes "g") 188 352 0 96 ++ (
    words (codes "n m") 198 346 (codes "4") ++ (
    words (codes "n") 188 332 (codes "5") ++ (
    line (codes "G") 208 352 0 96 ++ (
    line (codes "g") 228 352 0 96 ++ (
    line (codes "g") 248 352 0 96 ++ (
    words (codes "e") 100 384 (codes "3 island") ++ (
    rect (codes "c2") 148 368 20 22 ++ (
    rect (codes "o") 151 371 14 16 ++ (
    words (codes "m") 158 380 (codes "2") ++ (
    rect (codes "c2") 168 368 20 22 ++ (
    words (codes "m") 178 380 (codes "2") ++ (
    rect (codes "y") 188 378 20 3 ++ (
    line (codes "b") 108 390 140 0 ++ (
    release 148 390 ++ (
    end 208 390 ++ (
    words (codes "e") 100 429 (codes "processor 2") ++ (
    rect (codes "c2") 148 416 20 18 ++ (
    rect (codes "o") 151 419 14 12 ++ (
    words (codes "m") 158 428 (codes "3") ++ (
    rect (codes "c2") 168 416 20 18 ++ (
    words (codes "m") 178 428 (codes "3") ++ (
    rect (codes "c2") 148 436 40 4 ++ (
    line (codes "b") 108 434 140 0 ++ (
    legend 464 ++ codes "</svg>\n"
    )))))))))))))))))))))))))))))))))))))))))))))))))))))))))))))))))))))))))))))))))))))))))))))))))))))))))))))))
unfolding computed shown charted pictured digits
apart_entries = refl
